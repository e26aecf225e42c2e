-- What is claimed of demoted contractors in a queue, and through the C calls on a roll's bytes: request 6, "Demoting without dropping". What is claimed
-- of single checks on a roll by value stands in `demotion`. A term of each type stands in proofs/Claims.antt.
use Rattle.std.specs.Prelude.{◌≡◌, List, [], ◌∷◌, ℕ, ◌≤◌, ◌<◌, length, get_or, replicate}
use Rattle.basics.specs.Bytes.{AreBytes}
use Rattle.roll.specs.declared.Roll.{Roll}
use Rattle.roll.specs.Roll.{count_of, figure_of, entry_of}
use Rattle.roll_changes.specs.Changes.{change_number, changed_roll}
use Rattle.roll_bytes.specs.RollBytes.{roll_length, roll_of}
use Rattle.histories.specs.Histories.{Change, enter, change, withdraw, roll_after, Raised, Spares, IsRoll}
use Rattle.grant.specs.Grants.{contractor_in}
use Rattle.checking.specs.Checking.{opened_grant}
use Rattle.demotion.specs.Claims.{Above, IssueAbove}
use Rattle.check_call.specs.CheckCall.{call_code}
use Rattle.issue_call.specs.IssueCall.{issue_call_number, issue_call_output}
use Rattle.roll_calls.specs.RollCalls.{change_call_number, change_call_roll}
use Rattle.queue_parts.specs.QueueParts.{grants_in, grant_at}
use Rattle.queue.specs.Queue.{queue_number, queue_output}
use Rattle.queue_call.specs.QueueCall.{call_queue_number, call_queue_output}
use Rattle.call_claims.specs.CallHistories.{bytes_after, CallWithdrawn, CallRaised, grant_given}
use Rattle.call_claims.specs.Claims.{bytes_with7}

-- ---- counts and others
-- on a roll's bytes counts never fall, whatever is called
unfoldable pub CallCountsNeverFall : Type 0
CallCountsNeverFall = (roll : List ℕ) → AreBytes roll → length roll ≡ roll_length
    → (hs : List Change) (c : ℕ) → count_of (roll_of roll) c ≤ count_of (roll_of (bytes_after hs roll)) c

-- gordzila_change_right moves no count, nobody's
unfoldable pub CallsMoveNoCount : Type 0
CallsMoveNoCount = (roll : List ℕ) → AreBytes roll → length roll ≡ roll_length
    → (c right : ℕ) → (roll_of (change_call_roll roll c right)).counts ≡ (roll_of roll).counts

-- and calls for others leave a contractor's count and right
unfoldable pub CallsLeaveOthers : Type 0
CallsLeaveOthers = (roll : List ℕ) → AreBytes roll → length roll ≡ roll_length
    → (hs : List Change) (c : ℕ) → Spares c hs → entry_of (roll_of (bytes_after hs roll)) c ≡ entry_of (roll_of roll) c

-- ---- no overwriting in a queue
-- on a roll no grant of a contractor's has in a queue that is asked for overwriting a byte of 0, wherever it stands and whatever stands around it
abbrev pub QueuesNoOverwriting : Roll → ℕ → Type 0
QueuesNoOverwriting roll c = (key : List ℕ) (rounds : ℕ) (grants : List ℕ) (block : ℕ) (out : List ℕ) → queue_number key rounds grants block 2 out ≡ 0
    → (i : ℕ) → i < grants_in (length grants) → contractor_in (opened_grant key rounds (grant_at grants i)) ≡ c
    → get_or (queue_output key rounds roll grants block 2 out) i 0 ≡ 0 → ⊥

-- so it is after an accepted demotion, over every list of calls in which the contractor is neither raised nor entered again for overwriting
unfoldable pub QueueDemoted : Type 0
QueueDemoted = (roll : Roll) → IsRoll roll → (c : ℕ) → change_number roll c 1 ≡ 0
    → (hs : List Change) → (Raised c hs (changed_roll roll c 1) → ⊥) → QueuesNoOverwriting (roll_after hs (changed_roll roll c 1)) c

-- ---- no overwriting through the C calls
-- on a roll's bytes every grant that names a contractor is refused for overwriting, by gordzila_check with a number from 1 to 999, by
-- gordzila_check_queue with a byte that is not 0; and gordzila_issue issues none
pub record CallNoOverwriting (roll : List ℕ) (c : ℕ) : Type 0 where
  pub refused : (key : List ℕ) (rounds : ℕ) (grant : List ℕ) (block : ℕ) → contractor_in (opened_grant key rounds grant) ≡ c
      → (1 ≤ call_code key rounds roll grant block 2) × (call_code key rounds roll grant block 2 ≤ 999)
  pub queued : (key : List ℕ) (rounds : ℕ) (grants : List ℕ) (block : ℕ) (out : List ℕ) → call_queue_number key rounds roll grants block 2 out ≡ 0
      → (i : ℕ) → i < grants_in (length grants) → contractor_in (opened_grant key rounds (grant_at grants i)) ≡ c
      → get_or (call_queue_output key rounds roll grants block 2 out) i 0 ≡ 0 → ⊥
  pub issued : (key : List ℕ) (rounds block : ℕ) (out : List ℕ) → issue_call_number key rounds roll c block 2 out ≡ 0 → ⊥

-- so it is once a gordzila_change_right to reading has answered 0, over every list of calls in which none that gives the contractor the right to
-- overwrite answers 0
unfoldable pub CallsDemote : Type 0
CallsDemote = (roll : List ℕ) → AreBytes roll → (c : ℕ) → change_call_number roll c 1 ≡ 0
    → (hs : List Change) → (CallRaised c hs (change_call_roll roll c 1) → ⊥) → CallNoOverwriting (bytes_after hs (change_call_roll roll c 1)) c

-- what gordzila_check opened for overwriting before, it refuses with 25 after, until the contractor is raised or withdrawn
unfoldable pub CallDemotedIsAbove : Type 0
CallDemotedIsAbove = (roll : List ℕ) → AreBytes roll → (c : ℕ) → change_call_number roll c 1 ≡ 0
    → (hs : List Change) → (CallRaised c hs (change_call_roll roll c 1) → ⊥) → (CallWithdrawn c hs (change_call_roll roll c 1) → ⊥)
    → (key : List ℕ) (rounds : ℕ) (grant : List ℕ) (block : ℕ) → contractor_in (opened_grant key rounds grant) ≡ c
    → 1000 ≤ call_code key rounds roll grant block 2 → call_code key rounds (bytes_after hs (change_call_roll roll c 1)) grant block 2 ≡ 25

-- ---- reading goes on
-- asked for reading, gordzila_check answers what it answered on the bytes before, and gordzila_issue answers and writes what it did
pub record CallReadsAs (roll other : List ℕ) (c : ℕ) : Type 0 where
  pub checks : (key : List ℕ) (rounds : ℕ) (grant : List ℕ) (block : ℕ) → contractor_in (opened_grant key rounds grant) ≡ c
      → call_code key rounds other grant block 1 ≡ call_code key rounds roll grant block 1
  pub issues : (key : List ℕ) (rounds block : ℕ) (out : List ℕ)
      → (issue_call_number key rounds other c block 1 out ≡ issue_call_number key rounds roll c block 1 out)
      × (issue_call_output key rounds other c block 1 out ≡ issue_call_output key rounds roll c block 1 out)

-- so it is after a demotion, until a gordzila_withdraw of the contractor answers 0
unfoldable pub CallsStillRead : Type 0
CallsStillRead = (roll : List ℕ) → AreBytes roll → (c : ℕ) → change_call_number roll c 1 ≡ 0
    → (hs : List Change) → (CallWithdrawn c hs (change_call_roll roll c 1) → ⊥) → CallReadsAs roll (bytes_after hs (change_call_roll roll c 1)) c

-- ---- raised again
-- raising a contractor on a roll's bytes answers 0, and gordzila_check then answers whatever is asked of their grants as it does on the other bytes
pub record CallRaises (roll other : List ℕ) (c : ℕ) : Type 0 where
  pub number : change_call_number other c 2 ≡ 0
  pub checks : (key : List ℕ) (rounds : ℕ) (grant : List ℕ) (block right : ℕ) → contractor_in (opened_grant key rounds grant) ≡ c
      → call_code key rounds (change_call_roll other c 2) grant block right ≡ call_code key rounds roll grant block right

-- so it is with the bytes before a demotion, whatever is called after it, unless a gordzila_withdraw of the contractor answers 0
unfoldable pub CallRaisedAsBefore : Type 0
CallRaisedAsBefore = (roll : List ℕ) → AreBytes roll → (c : ℕ) → figure_of (roll_of roll) c ≡ 2 → change_call_number roll c 1 ≡ 0
    → (hs : List Change) → (CallWithdrawn c hs (change_call_roll roll c 1) → ⊥) → CallRaises roll (bytes_after hs (change_call_roll roll c 1)) c

-- ---- when 25 is answered
-- exactly where the bytes are a roll's and the check, or the issue, on the roll read from them gives 25
unfoldable pub CallTwentyFiveExactlyAbove : Type 0
CallTwentyFiveExactlyAbove = (key : List ℕ) (rounds : ℕ) (roll grant : List ℕ) (block right : ℕ)
    → (call_code key rounds roll grant block right ≡ 25 → (length roll ≡ roll_length) × Above key rounds (roll_of roll) grant block right)
    × (length roll ≡ roll_length → Above key rounds (roll_of roll) grant block right → call_code key rounds roll grant block right ≡ 25)

unfoldable pub CallIssueTwentyFiveExactlyAbove : Type 0
CallIssueTwentyFiveExactlyAbove = (key : List ℕ) (rounds : ℕ) (roll : List ℕ) (c block right : ℕ) (out : List ℕ)
    → (issue_call_number key rounds roll c block right out ≡ 25 → (length roll ≡ roll_length) × IssueAbove key rounds (roll_of roll) c block right out)
    × (length roll ≡ roll_length → IssueAbove key rounds (roll_of roll) c block right out → issue_call_number key rounds roll c block right out ≡ 25)

-- ---- all of this happens
-- what is asked of a grant to contractor 7, who was entered for overwriting on the bytes of the empty roll, to overwrite size block 300, on the bytes
-- after some calls more
abbrev pub grant_to7 : List ℕ
grant_to7 = grant_given (replicate 12 0) 10 bytes_with7 7 300 2 (replicate 12 0)

abbrev pub answer_after : List Change → ℕ → ℕ
answer_after hs right = call_code (replicate 12 0) 10 (bytes_after hs bytes_with7) grant_to7 300 right

-- and the byte of it, alone in a queue
abbrev pub byte_after : List Change → ℕ → ℕ
byte_after hs right = get_or (call_queue_output (replicate 12 0) 10 (bytes_after hs bytes_with7) grant_to7 300 right (0xFF ∷ [])) 0 0

pub record CallExample : Type 0 where
  pub opens : (answer_after [] 2 ≡ 2007) × (byte_after [] 2 ≡ 0)
  pub demoted : change_call_number bytes_with7 7 1 ≡ 0
  pub above : (answer_after (change 7 1 ∷ []) 2 ≡ 25) × (byte_after (change 7 1 ∷ []) 2 ≡ 25)
  pub not_issued : issue_call_number (replicate 12 0) 10 (change_call_roll bytes_with7 7 1) 7 300 2 (replicate 12 0) ≡ 25
  pub reads : (answer_after (change 7 1 ∷ []) 1 ≡ 1007) × (byte_after (change 7 1 ∷ []) 1 ≡ 0)
  pub raises : change_call_number (change_call_roll bytes_with7 7 1) 7 2 ≡ 0
  pub raised : answer_after (change 7 1 ∷ change 7 2 ∷ []) 2 ≡ 2007
  -- there are lists of calls that raise nobody, among them one that would, but is refused since 7 is in standing; and lists in which 7 is not withdrawn
  pub not_raised : CallRaised 7 (enter 7 2 ∷ withdraw 7 ∷ []) (change_call_roll bytes_with7 7 1) → ⊥
  pub not_withdrawn : CallWithdrawn 7 (change 7 2 ∷ enter 8 1 ∷ []) (change_call_roll bytes_with7 7 1) → ⊥

unfoldable pub CallsDemoteSomething : Type 0
CallsDemoteSomething = CallExample
