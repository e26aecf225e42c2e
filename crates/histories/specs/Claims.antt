-- What is claimed of histories of a roll: document 01, "Roll and grant"; request 6, "Demoting without dropping". A term of each type stands in
-- proofs/Claims.antt.
use Rattle.std.specs.Prelude.{true, false, ◌≡◌, List, ℕ, ◌+◌, ◌≤◌, ◌<◌}
use Rattle.roll.specs.declared.Roll.{Roll}
use Rattle.roll.specs.Roll.{empty_roll, is_contractor, count_of, figure_of, entry_of, in_standing}
use Rattle.roll_changes.specs.Changes.{enter_number, entered_roll, withdraw_number, withdrawn_roll, change_number, changed_roll}
use Rattle.histories.specs.Histories.{Change, number_of, changed, roll_after, Withdrawn, Withdraws, Raised, Spares, IsRoll}

-- ---- every call
-- counts never fall
unfoldable pub CountsNeverFall : Type 0
CountsNeverFall = (hs : List Change) (roll : Roll) (c : ℕ) → count_of roll c ≤ count_of (roll_after hs roll) c

-- a change of right moves no count, nobody's
unfoldable pub ChangesMoveNoCount : Type 0
ChangesMoveNoCount = (roll : Roll) (c right : ℕ) → (changed_roll roll c right).counts ≡ roll.counts

-- calls for others change neither a contractor's count nor their right
unfoldable pub OthersEntriesStay : Type 0
OthersEntriesStay = (hs : List Change) (roll : Roll) (c : ℕ) → Spares c hs → entry_of (roll_after hs roll) c ≡ entry_of roll c

-- a refused call changes nothing
unfoldable pub RefusedChangesNothing : Type 0
RefusedChangesNothing = (h : Change) (roll : Roll) → 0 < number_of h roll → changed h roll ≡ roll

-- an enter or a withdrawal that is not refused adds 1: who is entered is then in standing, who is withdrawn is not
pub record Counts (roll : Roll) (c : ℕ) : Type 0 where
  pub entered : (right : ℕ) → enter_number roll c right ≡ 0
      → (count_of (entered_roll roll c right) c ≡ count_of roll c + 1) × (in_standing (count_of (entered_roll roll c right) c) ≡ true)
  pub withdrawn : withdraw_number roll c ≡ 0
      → (count_of (withdrawn_roll roll c) c ≡ count_of roll c + 1) × (in_standing (count_of (withdrawn_roll roll c) c) ≡ false)

unfoldable pub CallsCount : Type 0
CallsCount = (roll : Roll) → IsRoll roll → (c : ℕ) → Counts roll c

-- and the right is the one that was given, on entering and when it is changed, also where it was held already; it is 1 after a withdrawal
pub record SetsRight (roll : Roll) (c : ℕ) : Type 0 where
  pub entered : (right : ℕ) → enter_number roll c right ≡ 0 → figure_of (entered_roll roll c right) c ≡ right
  pub given : (right : ℕ) → change_number roll c right ≡ 0 → figure_of (changed_roll roll c right) c ≡ right
  pub withdrawn : withdraw_number roll c ≡ 0 → figure_of (withdrawn_roll roll c) c ≡ 1

unfoldable pub CallsSetRights : Type 0
CallsSetRights = (roll : Roll) → IsRoll roll → (c : ℕ) → SetsRight roll c

-- counts keep to 16 bits, so that none wraps, and rights to a byte; the empty roll has such counts and rights
unfoldable pub NothingWraps : Type 0
NothingWraps = IsRoll empty_roll × ((hs : List Change) (roll : Roll) → IsRoll roll → IsRoll (roll_after hs roll))

-- at the end of the range nobody comes back: from 65,534 on a count stays, out of standing; and who is withdrawn at 65,533 stays out
pub record Spent (hs : List Change) (roll : Roll) (c : ℕ) : Type 0 where
  pub stays : 65534 ≤ count_of roll c → count_of (roll_after hs roll) c ≡ count_of roll c
  pub not_back : 65533 ≤ count_of roll c → Withdrawn c hs roll → count_of (roll_after hs roll) c ≡ 65534
  pub out : 65534 ≤ count_of (roll_after hs roll) c → in_standing (count_of (roll_after hs roll) c) ≡ false

unfoldable pub NobodyComesBack : Type 0
NobodyComesBack = (hs : List Change) (roll : Roll) → IsRoll roll → (c : ℕ) → is_contractor c ≡ true → Spent hs roll c

-- ---- withdrawals
-- a list with an accepted withdrawal of c leaves c's count above what it was at first
unfoldable pub WithdrawalCounts : Type 0
WithdrawalCounts = (hs : List Change) (roll : Roll) → IsRoll roll → (c : ℕ) → Withdrawn c hs roll → count_of roll c < count_of (roll_after hs roll) c

-- and so does a list with any withdrawal of c, refused or not, where c is in standing at first
unfoldable pub WithdrawsCounts : Type 0
WithdrawsCounts = (hs : List Change) (roll : Roll) → IsRoll roll → (c : ℕ) → is_contractor c ≡ true → in_standing (count_of roll c) ≡ true
    → Withdraws c hs → count_of roll c < count_of (roll_after hs roll) c

-- a list without an accepted withdrawal of c, who is in standing at first, leaves c's count as it was
unfoldable pub StandingStays : Type 0
StandingStays = (hs : List Change) (roll : Roll) → IsRoll roll → (c : ℕ) → in_standing (count_of roll c) ≡ true
    → (Withdrawn c hs roll → ⊥) → count_of (roll_after hs roll) c ≡ count_of roll c

-- ---- demotions
-- who has not the right to overwrite gets it by no list of calls in which it is not given
unfoldable pub NotRaisedUnasked : Type 0
NotRaisedUnasked = (hs : List Change) (roll : Roll) → IsRoll roll → (c : ℕ) → (figure_of roll c ≡ 2 → ⊥)
    → (Raised c hs roll → ⊥) → figure_of (roll_after hs roll) c ≡ 2 → ⊥
