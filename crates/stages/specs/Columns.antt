-- Keys and key stages as columns of three bytes, and the column rule: document 01, "The layers" and "Key stages"; paper 000,
-- sections 3.5 and 3.7. A stage of n columns is a list of 3n bytes: byte i + 3j is row i, column j.
use Rattle.std.specs.Prelude.{List, [], ◌∷◌, ◌++◌, ℕ, zero, suc, ◌+◌, ◌-◌, ◌*◌, ◌<◌, get_or, length, replicate}
use Rattle.field.specs.Field.{◌⊕◌, times}

-- row i, column j
abbrev pub cell : List ℕ → ℕ → ℕ → ℕ
cell k i j = get_or k (i + 3 * j) 0

module _ {A : Type 0} where
  -- n columns from column j on, with f i j in row i, column j
  unfoldable pub columns : ℕ → ℕ → (ℕ → ℕ → A) → List A
  columns j zero f = []
  columns j (suc n) f = f 0 j ∷ f 1 j ∷ f 2 j ∷ columns (suc j) n f

  -- n columns with f i j in row i, column j
  abbrev pub fill : ℕ → (ℕ → ℕ → A) → List A
  fill n f = columns 0 n f

-- a stage: n columns of three bytes
pub data IsStage (n : ℕ) : List ℕ → Type 0 where
  filled : (f : ℕ → ℕ → ℕ) → ((i j : ℕ) → f i j < 256) → IsStage n (fill n f)

-- the sum of two stages of n columns
unfoldable pub plus : ℕ → List ℕ → List ℕ → List ℕ
plus n a b = fill n (λ i j. cell a i j ⊕ cell b i j)

-- a stage in 24 bytes, those past it zero
unfoldable pub padded : List ℕ → List ℕ
padded k = k ++ replicate (24 - length k) 0

-- the byte x of a column x₀ x₁ x₂ after the column rule: m times the sum of the three is added to it
abbrev pub rule_byte : ℕ → ℕ → ℕ → ℕ → ℕ → ℕ
rule_byte m x x₀ x₁ x₂ = x ⊕ times m (x₀ ⊕ (x₁ ⊕ x₂))

-- the column rule on each of n columns (the paper's mu): with m = c, and its inverse with m = c + 1
unfoldable pub column_rule : ℕ → ℕ → List ℕ → List ℕ
column_rule m n k = fill n (λ i j. rule_byte m (cell k i j) (cell k 0 j) (cell k 1 j) (cell k 2 j))
