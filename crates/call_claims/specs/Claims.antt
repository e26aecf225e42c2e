-- What is claimed of the C calls: of the check's number, and of a store through lists of calls. A term of each type stands in
-- proofs/Claims.antt.
use Rattle.std.specs.Prelude.{true, false, ◌⊎◌, ◌≡◌, List, [], ◌∷◌, ℕ, ◌+◌, ◌*◌, ◌≤◌, ◌<◌, length, replicate, Ok, Err}
use Rattle.basics.specs.Bytes.{AreBytes}
use Rattle.refusal.specs.Tries.{first, answered}
use Rattle.refusal.specs.Claims.{Ordered}
use Rattle.roll.specs.declared.Roll.{Roll}
use Rattle.roll.specs.Roll.{empty_roll}
use Rattle.roll_bytes.specs.RollBytes.{roll_length, roll_of, roll_bytes}
use Rattle.histories.specs.Histories.{Change, enter, roll_after, Withdraws, Merge}
use Rattle.rights.specs.Rights.{is_right}
use Rattle.grant.specs.Grants.{Verdict, contractor_in, verdict_number, verdict_contractor}
use Rattle.checking.specs.Checking.{opened_grant, check_number, check_contractor, check_right}
use Rattle.revocation.specs.Claims.{Opening, ReadingGrant, Earlier, calls7}
use Rattle.roll_calls.specs.RollCalls.{empty_call_tries, enter_call_tries, withdraw_call_tries, change_call_tries}
use Rattle.issue_call.specs.IssueCall.{issue_call_tries}
use Rattle.check_call.specs.CheckCall.{verdict_code, call_tries, call_code}
use Rattle.call_claims.specs.CallHistories.{bytes_after, CallWithdrawn, CallIssued, grant_given}

-- ---- the check's number, and the order of all
-- a verdict whose contractor, if it has one, is numbered 1 to 200
abbrev pub OfContractor : Verdict → Type 0
OfContractor (Ok g) = (1 ≤ g.contractor) × (g.contractor ≤ 200)
OfContractor (Err r) = Unit {0}

-- no two such verdicts give the same number
unfoldable pub CodesTellVerdicts : Type 0
CodesTellVerdicts = (v w : Verdict) → OfContractor v → OfContractor w → verdict_code v ≡ verdict_code w → v ≡ w

-- and every verdict that a check's contract allows is one
unfoldable pub ChecksNameContractors : Type 0
ChecksNameContractors = (key : List ℕ) (rounds : ℕ) (roll : Roll) (grant : List ℕ) (block right : ℕ)
    → (v : Verdict) → verdict_number v ≡ check_number key rounds roll grant block right
    → verdict_contractor v ≡ check_contractor key rounds roll grant block right
    → OfContractor v

-- the C call gives the first reason of its order line that holds, and where none does, the right that was asked for and the grant's contractor
pub record CallOrdered (key : List ℕ) (rounds : ℕ) (roll grant : List ℕ) (block right : ℕ) : Type 0 where
  pub tries : Ordered (call_tries key rounds roll grant block right)
  pub code : call_code key rounds roll grant block right
      ≡ answered (first (call_tries key rounds roll grant block right))
      (1000 * right + contractor_in (opened_grant key rounds grant))
      (first (call_tries key rounds roll grant block right))

unfoldable pub CallInOrder : Type 0
CallInOrder = (key : List ℕ) (rounds : ℕ) (roll grant : List ℕ) (block right : ℕ) → CallOrdered key rounds roll grant block right

-- and so do the empty roll, enter, withdraw, change of right and issue; the queue's order stands in `queue_claims`
pub record RollCallsOrdered (key : List ℕ) (rounds : ℕ) (roll : List ℕ) (c block right : ℕ) (out : List ℕ) : Type 0 where
  pub empty : Ordered (empty_call_tries out)
  pub enter : Ordered (enter_call_tries roll c right)
  pub withdraw : Ordered (withdraw_call_tries roll c)
  pub change : Ordered (change_call_tries roll c right)
  pub issue : Ordered (issue_call_tries key rounds roll c block right out)

unfoldable pub RollCallsInOrder : Type 0
RollCallsInOrder = (key : List ℕ) (rounds : ℕ) (roll : List ℕ) (c block right : ℕ) (out : List ℕ) → RollCallsOrdered key rounds roll c block right out

-- the check's C call opens, with a number of 1,000 or more, exactly when the bytes are a roll's and the grant opens on the roll read from them
unfoldable pub CallOpensExactlyWhen : Type 0
CallOpensExactlyWhen = (key : List ℕ) → AreBytes key → (rounds : ℕ) (roll grant : List ℕ) → AreBytes grant
    → (block : ℕ) → block < 4294967296 → (right : ℕ)
    → (1000 ≤ call_code key rounds roll grant block right → (length roll ≡ roll_length) × Opening key rounds (roll_of roll) grant block right)
    × (length roll ≡ roll_length → (o : Opening key rounds (roll_of roll) grant block right)
    → call_code key rounds roll grant block right ≡ 1000 * right + o.contractor)

-- every answer of the C call is 1 or more: none is 0
unfoldable pub CallNeverZero : Type 0
CallNeverZero = (key : List ℕ) (rounds : ℕ) (roll grant : List ℕ) (block right : ℕ) → 1 ≤ call_code key rounds roll grant block right

-- on a roll's bytes the C call is the check on the roll that is read from them: the refusal number, or 1,000 times the
-- right that it answers plus the contractor
abbrev pub check_code : List ℕ → ℕ → Roll → List ℕ → ℕ → ℕ → ℕ
check_code key rounds roll grant block right =
    answered (check_number key rounds roll grant block right)
    (1000 * check_right key rounds roll grant block right + check_contractor key rounds roll grant block right)
    (check_number key rounds roll grant block right)

unfoldable pub CallIsCheck : Type 0
CallIsCheck = (key : List ℕ) (rounds : ℕ) (roll grant : List ℕ) (block right : ℕ) → length roll ≡ roll_length
    → call_code key rounds roll grant block right ≡ check_code key rounds (roll_of roll) grant block right

-- ---- a store through its C calls
-- bytes that hold a roll
pub record Holds (bytes : List ℕ) (roll : Roll) : Type 0 where
  pub small : AreBytes bytes
  pub long : length bytes ≡ roll_length
  pub read : roll_of bytes ≡ roll

-- calls on the bytes are calls on the roll that they hold
unfoldable pub BytesFollowRoll : Type 0
BytesFollowRoll = (bytes : List ℕ) → AreBytes bytes → length bytes ≡ roll_length → (hs : List Change)
    → Holds (bytes_after hs bytes) (roll_after hs (roll_of bytes))

-- a grant that was issued opens on the same roll: the answer is 1,000 times its right plus the contractor. A grant to overwrite opens for reading
-- too, answering reading, and one to read is refused with 10 for overwriting. For what is no right it is 7; for another block 9, with either right, and
-- 14 where that block is 0
pub record CallChecks (key : List ℕ) (rounds : ℕ) (roll : List ℕ) (contractor block right : ℕ) (out : List ℕ) : Type 0 where
  pub opens : call_code key rounds roll (grant_given key rounds roll contractor block right out) block right ≡ 1000 * right + contractor
  pub looks : right ≡ 2 → call_code key rounds roll (grant_given key rounds roll contractor block right out) block 1 ≡ 1000 + contractor
  pub only_reads : right ≡ 1 → call_code key rounds roll (grant_given key rounds roll contractor block right out) block 2 ≡ 10
  pub no_right : (asked : ℕ) → is_right asked ≡ false
      → call_code key rounds roll (grant_given key rounds roll contractor block right out) block asked ≡ 7
  pub other_block : (b asked : ℕ) → (b ≡ block → ⊥) → (b ≡ 0 → ⊥) → is_right asked ≡ true
      → call_code key rounds roll (grant_given key rounds roll contractor block right out) b asked ≡ 9
  pub block_zero : (asked : ℕ) → is_right asked ≡ true
      → call_code key rounds roll (grant_given key rounds roll contractor block right out) 0 asked ≡ 14

unfoldable pub CallIssuedOpens : Type 0
CallIssuedOpens = (key : List ℕ) (rounds : ℕ) (roll : List ℕ) (contractor block right : ℕ) (out : List ℕ)
    → CallIssued key rounds roll contractor block right out → CallChecks key rounds roll contractor block right out

-- ---- looking before overwriting
-- whatever opens for overwriting opens for reading, with the same contractor: asked for reading, the answer is 1,000 less
unfoldable pub CallOverwritingOpensReading : Type 0
CallOverwritingOpensReading = (key : List ℕ) (rounds : ℕ) (roll grant : List ℕ) (block : ℕ)
    → 1000 ≤ call_code key rounds roll grant block 2 → call_code key rounds roll grant block 2 ≡ 1000 + call_code key rounds roll grant block 1

-- 10 is answered only where overwriting is asked of a whole grant to read
unfoldable pub CallTenOnlyForOverwriting : Type 0
CallTenOnlyForOverwriting = (key : List ℕ) (rounds : ℕ) (roll grant : List ℕ) (block right : ℕ)
    → call_code key rounds roll grant block right ≡ 10 → ReadingGrant key rounds grant right

-- an example. On the bytes of the empty roll contractor 7 is entered for overwriting, and gets a grant for size block 300 with a right; what the
-- check of it answers, asked for another
abbrev pub bytes_with7 : List ℕ
bytes_with7 = bytes_after (enter 7 2 ∷ []) (roll_bytes empty_roll)

abbrev pub answer_to7 : ℕ → ℕ → ℕ
answer_to7 right asked =
    call_code (replicate 12 0) 10 bytes_with7 (grant_given (replicate 12 0) 10 bytes_with7 7 300 right (replicate 12 0)) 300 asked

unfoldable pub CallAnswersTo7 : Type 0
CallAnswersTo7 = (answer_to7 2 1 ≡ 1007) × ((answer_to7 2 2 ≡ 2007) × ((answer_to7 1 1 ≡ 1007) × (answer_to7 1 2 ≡ 10)))

-- ---- revocation
-- gordzila_check answers with a refusal, a number from 1 to 999, whatever size block and right are asked for
abbrev pub Refuses : List ℕ → ℕ → List ℕ → List ℕ → Type 0
Refuses key rounds roll grant = (block right : ℕ)
    → (1 ≤ call_code key rounds roll grant block right) × (call_code key rounds roll grant block right ≤ 999)

-- whatever is entered, withdrawn and changed: once a gordzila_withdraw of its contractor has answered 0, a grant from before now is refused, for whatever
-- size block and with whatever right it was issued, under that key and round count
unfoldable pub CallsRevokeEarlier : Type 0
CallsRevokeEarlier = (key : List ℕ) (rounds : ℕ) (roll : List ℕ) → AreBytes roll → length roll ≡ roll_length → (contractor : ℕ) (grant : List ℕ)
    → Earlier key rounds (roll_of roll) contractor grant
    → (hs : List Change) → CallWithdrawn contractor hs roll → Refuses key rounds (bytes_after hs roll) grant

-- and for two rooms, in whatever order their calls arrive, once either has called gordzila_withdraw of the contractor, whatever it answered
unfoldable pub CallsRevokeEarlierInTwoRooms : Type 0
CallsRevokeEarlierInTwoRooms = (key : List ℕ) (rounds : ℕ) (roll : List ℕ) → AreBytes roll → length roll ≡ roll_length → (contractor : ℕ) (grant : List ℕ)
    → Earlier key rounds (roll_of roll) contractor grant
    → (xs ys zs : List Change) → Merge xs ys zs → Withdraws contractor xs ⊎ Withdraws contractor ys → Refuses key rounds (bytes_after zs roll) grant

-- and so for what gordzila_issue wrote, where it answered 0
unfoldable pub CallsRevoke : Type 0
CallsRevoke = (key : List ℕ) (rounds : ℕ) (roll : List ℕ) (contractor block right : ℕ) (out : List ℕ)
    → CallIssued key rounds roll contractor block right out
    → (hs : List Change) → CallWithdrawn contractor hs roll
    → Refuses key rounds (bytes_after hs roll) (grant_given key rounds roll contractor block right out)

-- in two rooms too
unfoldable pub CallsRevokeInTwoRooms : Type 0
CallsRevokeInTwoRooms = (key : List ℕ) (rounds : ℕ) (roll : List ℕ) (contractor block right : ℕ) (out : List ℕ)
    → CallIssued key rounds roll contractor block right out
    → (xs ys zs : List Change) → Merge xs ys zs → Withdraws contractor xs ⊎ Withdraws contractor ys
    → Refuses key rounds (bytes_after zs roll) (grant_given key rounds roll contractor block right out)

-- there are such calls: contractor 7, entered so, gets a grant, is demoted, withdrawn, and entered again for overwriting. Two rooms that make them are
-- those of the example of `revocation`
unfoldable pub CallsRevokeSomething : Type 0
CallsRevokeSomething = CallIssued (replicate 12 0) 10 bytes_with7 7 300 2 (replicate 12 0) × CallWithdrawn 7 calls7 bytes_with7
