-- What is claimed of a queue of grants: request 2, "The morning queue", with 25 as request 6 and 14 as request 7 has it. A term of each type stands
-- in proofs/Claims.antt.
use Rattle.std.specs.Prelude.{cond, ◌⊎◌, ◌≡◌, List, [], ◌∷◌, ℕ, ◌<◌, leb, length, get_or, drop}
use Rattle.basics.specs.Bytes.{AreBytes}
use Rattle.refusal.specs.Claims.{Ordered}
use Rattle.roll.specs.declared.Roll.{Roll}
use Rattle.roll_changes.specs.Changes.{withdraw_number, withdrawn_roll}
use Rattle.roll_bytes.specs.RollBytes.{roll_length, roll_of}
use Rattle.histories.specs.Histories.{Change, roll_after, Withdrawn, Withdraws, Merge, IsRoll}
use Rattle.grant.specs.Grants.{contractor_in}
use Rattle.issuing.specs.Issuing.{issued_grant}
use Rattle.checking.specs.Checking.{opened_grant, check_number}
use Rattle.revocation.specs.Claims.{Issued, Earlier}
use Rattle.check_call.specs.CheckCall.{call_code}
use Rattle.roll_calls.specs.RollCalls.{withdraw_call_number, withdraw_call_roll}
use Rattle.call_claims.specs.CallHistories.{bytes_after, CallWithdrawn, CallIssued, grant_given}
use Rattle.queue_parts.specs.QueueParts.{grants_in, grant_at}
use Rattle.queue.specs.Queue.{queue_tries, queue_number, queue_output}
use Rattle.queue_call.specs.QueueCall.{call_queue_tries, call_queue_number, call_queue_output}

-- ---- the whole call
-- each refusal has its reason, and the first in order is given
unfoldable pub QueueInOrder : Type 0
QueueInOrder = (key : List ℕ) (rounds : ℕ) (roll grants : List ℕ) (block right : ℕ) (out : List ℕ)
    → Ordered (queue_tries key rounds grants block right out) × Ordered (call_queue_tries key rounds roll grants block right out)

-- a call that is refused writes nothing, on a roll by value or in bytes
unfoldable pub RefusedQueueKeeps : Type 0
RefusedQueueKeeps = (key : List ℕ) (rounds : ℕ) (roll : Roll) (bytes grants : List ℕ) (block right : ℕ) (out : List ℕ)
    → (0 < queue_number key rounds grants block right out → queue_output key rounds roll grants block right out ≡ out)
    × (0 < call_queue_number key rounds bytes grants block right out → call_queue_output key rounds bytes grants block right out ≡ out)

-- ---- each byte
-- a call that is not refused: byte i of the lent answers is the number of the single check on grant i, on the same roll, for the same size block
-- and right; no byte is lost, and after the last answer stands what stood there
pub record Answers (key : List ℕ) (rounds : ℕ) (roll : Roll) (grants : List ℕ) (block right : ℕ) (out after : List ℕ) : Type 0 where
  pub each : (i : ℕ) → i < grants_in (length grants) → get_or after i 0 ≡ check_number key rounds roll (grant_at grants i) block right
  pub same : length after ≡ length out
  pub rest : drop (grants_in (length grants)) after ≡ drop (grants_in (length grants)) out

unfoldable pub BytesAreChecks : Type 0
BytesAreChecks = (key : List ℕ) (rounds : ℕ) (roll : Roll) (grants : List ℕ) (block right : ℕ) (out : List ℕ)
    → queue_number key rounds grants block right out ≡ 0
    → Answers key rounds roll grants block right out (queue_output key rounds roll grants block right out)

-- one of the numbers listed
abbrev pub Among : ℕ → List ℕ → Type 0
Among n [] = ⊥
Among n (m ∷ ms) = (n ≡ m) ⊎ Among n ms

-- a byte is 0, or a reason that is found in the grant or on the roll; so it is never 1, 2, 3, 7 or 14, nor 4
pub record VerdictByte (n : ℕ) : Type 0 where
  pub one_of : Among n (0 ∷ 8 ∷ 9 ∷ 10 ∷ 20 ∷ 23 ∷ 25 ∷ [])
  pub none_of : Among n (1 ∷ 2 ∷ 3 ∷ 4 ∷ 7 ∷ 14 ∷ []) → ⊥

unfoldable pub BytesAreVerdicts : Type 0
BytesAreVerdicts = (key : List ℕ) (rounds : ℕ) (roll : Roll) (grants : List ℕ) (block right : ℕ) (out : List ℕ)
    → queue_number key rounds grants block right out ≡ 0 → (i : ℕ) → i < grants_in (length grants)
    → VerdictByte (get_or (queue_output key rounds roll grants block right out) i 0)

-- ---- revocation in a queue
-- a grant has in no queue a byte of 0, wherever it stands, whatever stands around it, and whatever is asked for
abbrev pub OpensNowhere : List ℕ → ℕ → Roll → List ℕ → Type 0
OpensNowhere key rounds roll grant = (grants : List ℕ) (block right : ℕ) (out : List ℕ) → queue_number key rounds grants block right out ≡ 0
    → (i : ℕ) → i < grants_in (length grants) → grant_at grants i ≡ grant → get_or (queue_output key rounds roll grants block right out) i 0 ≡ 0 → ⊥

-- right after a withdrawal: every grant that names the contractor, whenever it was issued, under any key and round count
unfoldable pub QueueAfterWithdrawal : Type 0
QueueAfterWithdrawal = (roll : Roll) → IsRoll roll → (contractor : ℕ) → withdraw_number roll contractor ≡ 0
    → (key : List ℕ) (rounds : ℕ) (grant : List ℕ) → contractor_in (opened_grant key rounds grant) ≡ contractor
    → OpensNowhere key rounds (withdrawn_roll roll contractor) grant

-- from then on, whatever is entered, withdrawn and changed, re-entering the contractor included: every grant from before it, for whatever size block and
-- with whatever right it was issued
unfoldable pub QueueRevokedEarlier : Type 0
QueueRevokedEarlier = (key : List ℕ) (rounds : ℕ) (roll : Roll) (contractor : ℕ) (grant : List ℕ)
    → Earlier key rounds roll contractor grant → IsRoll roll
    → (hs : List Change) → Withdrawn contractor hs roll → OpensNowhere key rounds (roll_after hs roll) grant

-- for two rooms too, in whatever order their calls arrive, once either has asked for the withdrawal
unfoldable pub QueueRevokedEarlierInTwoRooms : Type 0
QueueRevokedEarlierInTwoRooms = (key : List ℕ) (rounds : ℕ) (roll : Roll) (contractor : ℕ) (grant : List ℕ)
    → Earlier key rounds roll contractor grant → IsRoll roll
    → (xs ys zs : List Change) → Merge xs ys zs → Withdraws contractor xs ⊎ Withdraws contractor ys → OpensNowhere key rounds (roll_after zs roll) grant

-- and so what an issue wrote that was not refused
unfoldable pub QueueRevoked : Type 0
QueueRevoked = (key : List ℕ) (rounds : ℕ) (roll : Roll) (contractor block right : ℕ) (out : List ℕ)
    → Issued key rounds roll contractor block right out → IsRoll roll
    → (hs : List Change) → Withdrawn contractor hs roll
    → OpensNowhere key rounds (roll_after hs roll) (issued_grant key rounds roll contractor block right)

-- in two rooms too
unfoldable pub QueueRevokedInTwoRooms : Type 0
QueueRevokedInTwoRooms = (key : List ℕ) (rounds : ℕ) (roll : Roll) (contractor block right : ℕ) (out : List ℕ)
    → Issued key rounds roll contractor block right out → IsRoll roll
    → (xs ys zs : List Change) → Merge xs ys zs → Withdraws contractor xs ⊎ Withdraws contractor ys
    → OpensNowhere key rounds (roll_after zs roll) (issued_grant key rounds roll contractor block right)

-- ---- the C call
-- what gordzila_check answers, as a byte of a queue: 0 where the grant opens, else the refusal's number
abbrev pub as_byte : ℕ → ℕ
as_byte code = cond (leb 1000 code) 0 code

-- a call that is not refused: byte i is what gordzila_check answers for grant i, on the same roll, for the same size block and right
pub record CallAnswers (key : List ℕ) (rounds : ℕ) (roll grants : List ℕ) (block right : ℕ) (out after : List ℕ) : Type 0 where
  pub each : (i : ℕ) → i < grants_in (length grants) → get_or after i 0 ≡ as_byte (call_code key rounds roll (grant_at grants i) block right)
  pub same : length after ≡ length out
  pub rest : drop (grants_in (length grants)) after ≡ drop (grants_in (length grants)) out

unfoldable pub CallBytesAreChecks : Type 0
CallBytesAreChecks = (key : List ℕ) (rounds : ℕ) (roll grants : List ℕ) (block right : ℕ) (out : List ℕ)
    → call_queue_number key rounds roll grants block right out ≡ 0
    → CallAnswers key rounds roll grants block right out (call_queue_output key rounds roll grants block right out)

-- on a roll's bytes the C call is the queue on the roll that is read from them
pub record SameQueue (key : List ℕ) (rounds : ℕ) (roll grants : List ℕ) (block right : ℕ) (out : List ℕ) : Type 0 where
  pub number : call_queue_number key rounds roll grants block right out ≡ queue_number key rounds grants block right out
  pub output : call_queue_output key rounds roll grants block right out ≡ queue_output key rounds (roll_of roll) grants block right out

unfoldable pub CallIsQueue : Type 0
CallIsQueue = (key : List ℕ) (rounds : ℕ) (roll grants : List ℕ) (block right : ℕ) (out : List ℕ) → length roll ≡ roll_length
    → SameQueue key rounds roll grants block right out

-- a byte is 0 or a number with which gordzila_check refuses a grant for what is found in it or on the roll
unfoldable pub CallBytesAreVerdicts : Type 0
CallBytesAreVerdicts = (key : List ℕ) (rounds : ℕ) (roll grants : List ℕ) (block right : ℕ) (out : List ℕ)
    → call_queue_number key rounds roll grants block right out ≡ 0 → (i : ℕ) → i < grants_in (length grants)
    → VerdictByte (get_or (call_queue_output key rounds roll grants block right out) i 0)

-- a grant has in no queue of gordzila_check_queue a byte of 0
abbrev pub CallOpensNowhere : List ℕ → ℕ → List ℕ → List ℕ → Type 0
CallOpensNowhere key rounds roll grant = (grants : List ℕ) (block right : ℕ) (out : List ℕ) → call_queue_number key rounds roll grants block right out ≡ 0
    → (i : ℕ) → i < grants_in (length grants) → grant_at grants i ≡ grant → get_or (call_queue_output key rounds roll grants block right out) i 0 ≡ 0 → ⊥

-- right after a gordzila_withdraw that answers 0: every grant that names the contractor, whenever it was issued, under any key and round count
unfoldable pub CallQueueAfterWithdrawal : Type 0
CallQueueAfterWithdrawal = (roll : List ℕ) → AreBytes roll → (contractor : ℕ) → withdraw_call_number roll contractor ≡ 0
    → (key : List ℕ) (rounds : ℕ) (grant : List ℕ) → contractor_in (opened_grant key rounds grant) ≡ contractor
    → CallOpensNowhere key rounds (withdraw_call_roll roll contractor) grant

-- from then on, whatever gordzila_enter, gordzila_change_right and gordzila_withdraw make of the roll: every grant from before it
unfoldable pub CallQueueRevokedEarlier : Type 0
CallQueueRevokedEarlier = (key : List ℕ) (rounds : ℕ) (roll : List ℕ) → AreBytes roll → length roll ≡ roll_length → (contractor : ℕ) (grant : List ℕ)
    → Earlier key rounds (roll_of roll) contractor grant
    → (hs : List Change) → CallWithdrawn contractor hs roll → CallOpensNowhere key rounds (bytes_after hs roll) grant

-- for two rooms too, once either has called gordzila_withdraw of the contractor, whatever it answered
unfoldable pub CallQueueRevokedEarlierInTwoRooms : Type 0
CallQueueRevokedEarlierInTwoRooms = (key : List ℕ) (rounds : ℕ) (roll : List ℕ) → AreBytes roll → length roll ≡ roll_length
    → (contractor : ℕ) (grant : List ℕ) → Earlier key rounds (roll_of roll) contractor grant
    → (xs ys zs : List Change) → Merge xs ys zs → Withdraws contractor xs ⊎ Withdraws contractor ys → CallOpensNowhere key rounds (bytes_after zs roll) grant

-- and so what gordzila_issue wrote, where it answered 0
unfoldable pub CallQueueRevoked : Type 0
CallQueueRevoked = (key : List ℕ) (rounds : ℕ) (roll : List ℕ) (contractor block right : ℕ) (out : List ℕ)
    → CallIssued key rounds roll contractor block right out
    → (hs : List Change) → CallWithdrawn contractor hs roll
    → CallOpensNowhere key rounds (bytes_after hs roll) (grant_given key rounds roll contractor block right out)

-- in two rooms too
unfoldable pub CallQueueRevokedInTwoRooms : Type 0
CallQueueRevokedInTwoRooms = (key : List ℕ) (rounds : ℕ) (roll : List ℕ) (contractor block right : ℕ) (out : List ℕ)
    → CallIssued key rounds roll contractor block right out
    → (xs ys zs : List Change) → Merge xs ys zs → Withdraws contractor xs ⊎ Withdraws contractor ys
    → CallOpensNowhere key rounds (bytes_after zs roll) (grant_given key rounds roll contractor block right out)
