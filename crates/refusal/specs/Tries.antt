-- The order of refusals: document 01's order lines as lists of tries. A call tries its reasons in order, and the first that holds is
-- the one given; where none holds, it does not refuse.
use Rattle.std.specs.Prelude.{Bool, true, cond, ◌≡◌, List, [], ◌∷◌, ◌++◌, ℕ, eqb, length, drop}

-- a reason's number, and the test that has to pass for the reason not to hold
pub record Try : Type 0 where
  pub number : ℕ
  pub passes : Bool

infix 20 ◌unless◌
abbrev pub ◌unless◌ : ℕ → Bool → Try
◌unless◌ n b = record { number = n; passes = b }

-- the number of the first reason that holds, or 0 where none does
unfoldable pub first : List Try → ℕ
first [] = 0
first (t ∷ ts) = cond t.passes (first ts) t.number

-- no reason of a list holds
abbrev pub NoneHolds : List Try → Type 0
NoneHolds [] = Unit {0}
NoneHolds (t ∷ ts) = (t.passes ≡ true) × NoneHolds ts

-- what a lent output holds after a call that gives the number n: where it does not refuse, the bytes it writes and then what stood
-- after them; where it refuses, what stood there
unfoldable pub written : ℕ → List ℕ → List ℕ → List ℕ
written n bytes out = cond (eqb n 0) (bytes ++ drop (length bytes) out) out

-- what a call by value answers with: what it makes where it does not refuse, and else what is said for a refusal
unfoldable pub answered : {A : Type 0} → ℕ → A → A → A
answered n done refused = cond (eqb n 0) done refused
