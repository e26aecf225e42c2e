-- What is claimed of size block 0: request 7, "No more block zero". A term of each type stands in proofs/Claims.antt.
use Rattle.std.specs.Prelude.{true, ◌≡◌, List, [], ℕ, ◌≤◌, ◌<◌, length, get_or, replicate}
use Rattle.basics.specs.Bytes.{AreBytes}
use Rattle.sizes.specs.Sizes.{key_length, rounds_allowed}
use Rattle.roll.specs.declared.Roll.{Roll}
use Rattle.roll.specs.Roll.{is_contractor}
use Rattle.roll_bytes.specs.RollBytes.{roll_length}
use Rattle.rights.specs.Rights.{is_right}
use Rattle.grant.specs.Grants.{plain_grant, size_block_in, is_grant}
use Rattle.issuing.specs.Issuing.{issue_number, issued_grant, issue_output}
use Rattle.checking.specs.Checking.{opened_grant, check_number}
use Rattle.check_call.specs.CheckCall.{call_code}
use Rattle.issue_call.specs.IssueCall.{issue_call_number, issue_call_output}
use Rattle.queue_parts.specs.QueueParts.{queue_length, grants_in, grant_at}
use Rattle.queue.specs.Queue.{queue_number, queue_output}
use Rattle.queue_call.specs.QueueCall.{call_queue_number, call_queue_output}
use Rattle.sealing.specs.Sealing.{seal_number, sealed, seal_output, seal_scratch}
use Rattle.revocation.specs.Claims.{OpensNothing, roll7}
use Rattle.call_claims.specs.Claims.{Refuses}
use Rattle.queue_claims.specs.Claims.{OpensNowhere, CallOpensNowhere}
use Rattle.page_claims.specs.Claims.{PageSettings, GivesBack}

-- ---- nothing opens for size block 0
-- no grant does, whatever it holds, under any key and round count, on any roll and with any right
unfoldable pub NothingOpensForZero : Type 0
NothingOpensForZero = (key : List ℕ) (rounds : ℕ) (roll : Roll) (grant : List ℕ) (right : ℕ) → check_number key rounds roll grant 0 right ≡ 0 → ⊥

-- gordzila_check answers with a refusal, a number from 1 to 999
unfoldable pub CallNothingOpensForZero : Type 0
CallNothingOpensForZero = (key : List ℕ) (rounds : ℕ) (roll grant : List ℕ) (right : ℕ)
    → (1 ≤ call_code key rounds roll grant 0 right) × (call_code key rounds roll grant 0 right ≤ 999)

-- and a queue is refused as a whole, however many grants stand in it, with no byte written
unfoldable pub QueueNothingForZero : Type 0
QueueNothingForZero = (key : List ℕ) (rounds : ℕ) (roll : Roll) (grants : List ℕ) (right : ℕ) (out : List ℕ)
    → (0 < queue_number key rounds grants 0 right out) × (queue_output key rounds roll grants 0 right out ≡ out)

unfoldable pub CallQueueNothingForZero : Type 0
CallQueueNothingForZero = (key : List ℕ) (rounds : ℕ) (roll grants : List ℕ) (right : ℕ) (out : List ℕ)
    → (0 < call_queue_number key rounds roll grants 0 right out) × (call_queue_output key rounds roll grants 0 right out ≡ out)

-- ---- nothing is issued and nothing is sealed for it
unfoldable pub NoneIssuedForZero : Type 0
NoneIssuedForZero = (key : List ℕ) (rounds : ℕ) (roll : Roll) (contractor right : ℕ) (out : List ℕ)
    → (0 < issue_number key rounds roll contractor 0 right out) × (issue_output key rounds roll contractor 0 right out ≡ out)

unfoldable pub CallNoneIssuedForZero : Type 0
CallNoneIssuedForZero = (key : List ℕ) (rounds : ℕ) (roll : List ℕ) (contractor right : ℕ) (out : List ℕ)
    → (0 < issue_call_number key rounds roll contractor 0 right out) × (issue_call_output key rounds roll contractor 0 right out ≡ out)

unfoldable pub NoneSealedForZero : Type 0
NoneSealedForZero = (key₁ key₂ : List ℕ) (rounds number : ℕ) (payload scratch out : List ℕ)
    → (0 < seal_number key₁ key₂ rounds 0 payload scratch out)
    × ((seal_output key₁ key₂ rounds 0 number payload scratch out ≡ out) × (seal_scratch key₁ key₂ rounds 0 payload scratch out ≡ scratch))

-- ---- grants that name it
-- a grant whose plain bytes name size block 0, issued before request 7 or however it came about, opens nothing at all
unfoldable pub NamesZeroOpensNothing : Type 0
NamesZeroOpensNothing = (key : List ℕ) (rounds : ℕ) (roll : Roll) (grant : List ℕ)
    → size_block_in (opened_grant key rounds grant) ≡ 0 → OpensNothing key rounds roll grant

-- gordzila_check refuses it, whatever is asked for; and in no queue does it have a byte of 0
unfoldable pub CallNamesZeroRefused : Type 0
CallNamesZeroRefused = (key : List ℕ) (rounds : ℕ) (roll grant : List ℕ) → size_block_in (opened_grant key rounds grant) ≡ 0 → Refuses key rounds roll grant

unfoldable pub NamesZeroOpensNowhere : Type 0
NamesZeroOpensNowhere = (key : List ℕ) (rounds : ℕ) (grant : List ℕ) → size_block_in (opened_grant key rounds grant) ≡ 0
    → ((roll : Roll) → OpensNowhere key rounds roll grant) × ((roll : List ℕ) → CallOpensNowhere key rounds roll grant)

-- a check that no input reason but 14 refuses
pub record Asked (key : List ℕ) (rounds : ℕ) (grant : List ℕ) (right : ℕ) : Type 0 where
  pub key-length : key_length (length key) ≡ true
  pub round-count : rounds_allowed (length key) rounds ≡ true
  pub twelve : length grant ≡ 12
  pub known_right : is_right right ≡ true

-- asked for another size block, a whole grant that names 0 is refused with 9
unfoldable pub NamesZeroIsOtherBlock : Type 0
NamesZeroIsOtherBlock = (key : List ℕ) (rounds : ℕ) (roll : Roll) (grant : List ℕ) (block right : ℕ) → Asked key rounds grant right
    → is_grant (opened_grant key rounds grant) ≡ true → size_block_in (opened_grant key rounds grant) ≡ 0 → (block ≡ 0 → ⊥)
    → check_number key rounds roll grant block right ≡ 9

-- so does gordzila_check, on a roll's bytes; and in a queue that is not refused, and so is asked for another size block, its byte is 9
unfoldable pub CallNamesZeroIsOtherBlock : Type 0
CallNamesZeroIsOtherBlock = (key : List ℕ) (rounds : ℕ) (roll grant : List ℕ) (block right : ℕ) → length roll ≡ roll_length → Asked key rounds grant right
    → is_grant (opened_grant key rounds grant) ≡ true → size_block_in (opened_grant key rounds grant) ≡ 0 → (block ≡ 0 → ⊥)
    → call_code key rounds roll grant block right ≡ 9

unfoldable pub QueueNamesZeroIsOtherBlock : Type 0
QueueNamesZeroIsOtherBlock = (key : List ℕ) (rounds : ℕ) (roll : Roll) (grants : List ℕ) (block right : ℕ) (out : List ℕ)
    → queue_number key rounds grants block right out ≡ 0 → (i : ℕ) → i < grants_in (length grants)
    → is_grant (opened_grant key rounds (grant_at grants i)) ≡ true → size_block_in (opened_grant key rounds (grant_at grants i)) ≡ 0
    → get_or (queue_output key rounds roll grants block right out) i 0 ≡ 9

unfoldable pub CallQueueNamesZeroIsOtherBlock : Type 0
CallQueueNamesZeroIsOtherBlock = (key : List ℕ) (rounds : ℕ) (roll grants : List ℕ) (block right : ℕ) (out : List ℕ)
    → call_queue_number key rounds roll grants block right out ≡ 0 → (i : ℕ) → i < grants_in (length grants)
    → is_grant (opened_grant key rounds (grant_at grants i)) ≡ true → size_block_in (opened_grant key rounds (grant_at grants i)) ≡ 0
    → get_or (call_queue_output key rounds roll grants block right out) i 0 ≡ 9

-- ---- when 14 is given
-- by a check exactly where 0 is asked for and no reason holds that is tried before it: whatever the grant's bytes and the roll are
unfoldable pub FourteenExactlyForZero : Type 0
FourteenExactlyForZero = (key : List ℕ) (rounds : ℕ) (roll : Roll) (grant : List ℕ) (block right : ℕ)
    → (check_number key rounds roll grant block right ≡ 14 → Asked key rounds grant right × (block ≡ 0))
    × (Asked key rounds grant right → block ≡ 0 → check_number key rounds roll grant block right ≡ 14)

unfoldable pub CallFourteenExactlyForZero : Type 0
CallFourteenExactlyForZero = (key : List ℕ) (rounds : ℕ) (roll grant : List ℕ) (block right : ℕ)
    → (call_code key rounds roll grant block right ≡ 14 → (length roll ≡ roll_length) × (Asked key rounds grant right × (block ≡ 0)))
    × (length roll ≡ roll_length → Asked key rounds grant right → block ≡ 0 → call_code key rounds roll grant block right ≡ 14)

-- by a queue
pub record AskedQueue (key : List ℕ) (rounds : ℕ) (grants : List ℕ) (right : ℕ) (out : List ℕ) : Type 0 where
  pub key-length : key_length (length key) ≡ true
  pub round-count : rounds_allowed (length key) rounds ≡ true
  pub long : queue_length (length grants) ≡ true
  pub room : grants_in (length grants) ≤ length out
  pub known_right : is_right right ≡ true

unfoldable pub QueueFourteenExactlyForZero : Type 0
QueueFourteenExactlyForZero = (key : List ℕ) (rounds : ℕ) (grants : List ℕ) (block right : ℕ) (out : List ℕ)
    → (queue_number key rounds grants block right out ≡ 14 → AskedQueue key rounds grants right out × (block ≡ 0))
    × (AskedQueue key rounds grants right out → block ≡ 0 → queue_number key rounds grants block right out ≡ 14)

unfoldable pub CallQueueFourteenExactlyForZero : Type 0
CallQueueFourteenExactlyForZero = (key : List ℕ) (rounds : ℕ) (roll grants : List ℕ) (block right : ℕ) (out : List ℕ)
    → (call_queue_number key rounds roll grants block right out ≡ 14
    → (length roll ≡ roll_length) × (AskedQueue key rounds grants right out × (block ≡ 0)))
    × (length roll ≡ roll_length → AskedQueue key rounds grants right out → block ≡ 0 → call_queue_number key rounds roll grants block right out ≡ 14)

-- by an issue, whoever is in standing and whatever their right is
pub record AskedIssue (key : List ℕ) (rounds contractor right : ℕ) (out : List ℕ) : Type 0 where
  pub key-length : key_length (length key) ≡ true
  pub round-count : rounds_allowed (length key) rounds ≡ true
  pub room : 12 ≤ length out
  pub known_contractor : is_contractor contractor ≡ true
  pub known_right : is_right right ≡ true

unfoldable pub IssueFourteenExactlyForZero : Type 0
IssueFourteenExactlyForZero = (key : List ℕ) (rounds : ℕ) (roll : Roll) (contractor block right : ℕ) (out : List ℕ)
    → (issue_number key rounds roll contractor block right out ≡ 14 → AskedIssue key rounds contractor right out × (block ≡ 0))
    × (AskedIssue key rounds contractor right out → block ≡ 0 → issue_number key rounds roll contractor block right out ≡ 14)

unfoldable pub CallIssueFourteenExactlyForZero : Type 0
CallIssueFourteenExactlyForZero = (key : List ℕ) (rounds : ℕ) (roll : List ℕ) (contractor block right : ℕ) (out : List ℕ)
    → (issue_call_number key rounds roll contractor block right out ≡ 14
    → (length roll ≡ roll_length) × (AskedIssue key rounds contractor right out × (block ≡ 0)))
    × (length roll ≡ roll_length → AskedIssue key rounds contractor right out → block ≡ 0
    → issue_call_number key rounds roll contractor block right out ≡ 14)

-- and by sealing, however long the payload is
unfoldable pub SealFourteenExactlyForZero : Type 0
SealFourteenExactlyForZero = (key₁ key₂ : List ℕ) (rounds block : ℕ) (payload scratch out : List ℕ)
    → (seal_number key₁ key₂ rounds block payload scratch out ≡ 14
    → PageSettings key₁ key₂ rounds × ((576 ≤ length scratch) × ((512 ≤ length out) × (block ≡ 0))))
    × (PageSettings key₁ key₂ rounds → 576 ≤ length scratch → 512 ≤ length out → block ≡ 0 → seal_number key₁ key₂ rounds block payload scratch out ≡ 14)

-- ---- pages that were sealed for it
-- they open, with payload and header
unfoldable pub PagesForZeroOpen : Type 0
PagesForZeroOpen = (key₁ key₂ : List ℕ) → AreBytes key₁ → (rounds : ℕ) → PageSettings key₁ key₂ rounds → (number : ℕ) → number < 65536
    → (payload : List ℕ) → AreBytes payload → length payload ≤ 492 → (scratch out : List ℕ) → 576 ≤ length scratch → 492 ≤ length out
    → GivesBack key₁ key₂ rounds 0 number payload (sealed key₁ key₂ rounds 0 number payload) scratch out

-- ---- all of this happens
-- under a key of twelve zeros with ten rounds, a grant from before request 7 to contractor 7, who is in standing with the right to overwrite, for size
-- block 0
abbrev pub zero_grant : List ℕ
zero_grant = issued_grant (replicate 12 0) 10 roll7 7 0 2

pub record Example : Type 0 where
  -- it names size block 0, and its contractor's standing now
  pub names : opened_grant (replicate 12 0) 10 zero_grant ≡ plain_grant 7 1 0 2
  -- asked for 0 it is refused with 14, and for another size block with 9; and no other such grant is issued
  pub fourteen : check_number (replicate 12 0) 10 roll7 zero_grant 0 2 ≡ 14
  pub nine : check_number (replicate 12 0) 10 roll7 zero_grant 300 2 ≡ 9
  pub not_issued : issue_number (replicate 12 0) 10 roll7 7 0 2 (replicate 12 0) ≡ 14
  -- a page from before request 7, with no payload, opens with size block 0; and no other such page is sealed
  pub page : GivesBack (replicate 12 0) (replicate 12 1) 10 0 1 [] (sealed (replicate 12 0) (replicate 12 1) 10 0 1 []) (replicate 576 0) (replicate 492 0)
  pub not_sealed : seal_number (replicate 12 0) (replicate 12 1) 10 0 [] (replicate 576 0) (replicate 512 0) ≡ 14

unfoldable pub BlockZeroHappens : Type 0
BlockZeroHappens = Example
