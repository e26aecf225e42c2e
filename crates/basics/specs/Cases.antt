-- Computed cases: what a definition gives, and what it has to give. A list of them has one claim.
use Rattle.std.specs.Prelude.{Bool, cond, ◌≡◌, List, [], ◌∷◌, ◌++◌, ℕ, ◌/◌, ◌%◌}

pub record Case : Type 0 where
  pub given : List ℕ
  pub expected : List ℕ

infix 20 ◌is◌
abbrev pub ◌is◌ : List ℕ → List ℕ → Case
◌is◌ a b = record { given = a; expected = b }

-- what is given is what is expected, in every case of a list
abbrev pub Hold : List Case → Type 0
Hold [] = Unit {0}
Hold (c ∷ cs) = (c.given ≡ c.expected) × Hold cs

-- and in every list of several
abbrev pub HoldAll : List (List Case) → Type 0
HoldAll [] = Unit {0}
HoldAll (l ∷ ls) = Hold l × HoldAll ls

-- bytes, written three at a time: 0x0F1E2D stands for 0F 1E 2D
abbrev pub threes : List ℕ → List ℕ
threes [] = []
threes (n ∷ ns) = n / 65536 ∷ n / 256 % 256 ∷ n % 256 ∷ threes ns

-- lists, one after the other
abbrev pub joined : List (List ℕ) → List ℕ
joined [] = []
joined (x ∷ xs) = x ++ joined xs

-- a test as a number: 1 where it passes
abbrev pub flag : Bool → ℕ
flag b = cond b 1 0
