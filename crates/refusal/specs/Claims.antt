-- What is claimed of refusals. A term of each type stands in proofs/Claims.antt.
use Rattle.std.specs.Prelude.{false, ◌≡◌, Result, List, [], ◌∷◌, ◌++◌, ◌<◌}
use Rattle.refusal.specs.declared.Reason.{Reason}
use Rattle.refusal.specs.Reasons.{reason_number, outcome_number}
use Rattle.refusal.specs.Tries.{Try, first, NoneHolds}

-- two reasons never share a number, and none has the number 0: so an answer's number tells the answer
unfoldable pub NumbersTellReasons : Type 0
NumbersTellReasons = (r s : Reason) → reason_number r ≡ reason_number s → r ≡ s

unfoldable pub NumbersTellOutcomes : Type 0
NumbersTellOutcomes = (o p : Result (Unit {0}) Reason) → outcome_number o ≡ outcome_number p → o ≡ p

-- where no reason holds, no number is given
unfoldable pub NoneHoldsNoneGiven : Type 0
NoneHoldsNoneGiven = (ts : List Try) → NoneHolds ts → first ts ≡ 0

-- numbers of a list of tries are never 0
abbrev pub Numbered : List Try → Type 0
Numbered [] = Unit {0}
Numbered (t ∷ ts) = (0 < t.number) × Numbered ts

-- where no number is given, no reason holds
unfoldable pub NoneGivenNoneHolds : Type 0
NoneGivenNoneHolds = (ts : List Try) → Numbered ts → first ts ≡ 0 → NoneHolds ts

-- a number given is that of a reason that holds, and none before it does
pub record FirstOf (ts : List Try) : Type 0 where
  pub before : List Try
  pub own : Try
  pub after : List Try
  pub split : ts ≡ before ++ (own ∷ after)
  pub passed : NoneHolds before
  pub holds : own.passes ≡ false
  pub given : own.number ≡ first ts

unfoldable pub GivenIsFirst : Type 0
GivenIsFirst = (ts : List Try) → 0 < first ts → FirstOf ts

-- all of this of one list: each refusal has its reason, and the first in order is given
pub record Ordered (ts : List Try) : Type 0 where
  pub none-given : NoneHolds ts → first ts ≡ 0
  pub none-holds : first ts ≡ 0 → NoneHolds ts
  pub given-first : 0 < first ts → FirstOf ts
