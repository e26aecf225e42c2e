-- The four layers: document 01, "The layers"; paper 000, sections 3.1 to 3.4.
use Rattle.std.specs.Prelude.{List, [], ◌∷◌, ℕ, get_or}
use Rattle.std.specs.Int.Bits.{bit_xor}
use Rattle.field.specs.Field.{◌⊕◌, times}
use Rattle.sbox.specs.Sbox.{sbox}
use Rattle.layers.specs.State.{State, at, build}

-- the S-box on every byte (the paper's gamma)
abbrev pub substituted : State → State
substituted a = build (λ i j. sbox (at a i j))

-- row i, column j takes the byte of row i, column (i exclusive-or j) (the paper's pi)
abbrev pub permuted : State → State
permuted a = build (λ i j. at a i (bit_xor i j))

-- the rows of the diffusion matrix (the paper's D)
abbrev pub matrix : List (List ℕ)
matrix = (3 ∷ 2 ∷ 2 ∷ []) ∷ (4 ∷ 5 ∷ 4 ∷ []) ∷ (6 ∷ 6 ∷ 7 ∷ []) ∷ []

abbrev pub entry : ℕ → ℕ → ℕ
entry i k = get_or (get_or matrix i []) k 0

-- row i of the matrix times the column x, y, z
abbrev pub row_times : ℕ → ℕ → ℕ → ℕ → ℕ
row_times i x y z = times (entry i 0) x ⊕ (times (entry i 1) y ⊕ times (entry i 2) z)

-- each column multiplied by the matrix (the paper's theta)
abbrev pub diffused : State → State
diffused a = build (λ i j. row_times i (at a 0 j) (at a 1 j) (at a 2 j))

-- the subkey k added byte by byte (the paper's sigma)
abbrev pub added : State → State → State
added k a = build (λ i j. at a i j ⊕ at k i j)
