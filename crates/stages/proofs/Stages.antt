-- The stages of a key are stages, and so are the constants and the closing sum.
use mathlib.Core.Path.{◌≡◌, sym, ap}
use mathlib.Core.List.{List}
use Prim.Native.Nat.{ℕ, zero, suc, ◌-◌, ◌*◌, ◌<◌}
use lib.Dec.{lit<}
use Rattle.sbox.specs.Sbox.{sbox}
use Rattle.sbox.proofs.Laws.{sbox-small}
use lib.Bits.{bit_xor}
use Rattle.field.specs.Field.{◌⊕◌}
use Rattle.stages.specs.Columns.{cell, fill, IsStage, filled, plus}
use Rattle.stages.proofs.Columns.{fill_path, cell-fill}
use Rattle.stages.specs.Stages.{by_row, entry_of, constant, stage, zeros, closing_sum}
use Rattle.stages.proofs.Steps.{step_stage, plus-stage}

row_small : (i a : ℕ) → a < 256 → by_row i a 0 0 < 256
row_small zero a h = h
row_small (suc zero) a h = lit< tt
row_small (suc (suc i)) a h = lit< tt

pub constant-stage : (t s : ℕ) → IsStage (2 * t) (constant t s)
unfolding constant
constant-stage t s = filled (λ i j. by_row i (sbox (entry_of t s j)) 0 0) (λ i j. row_small i (sbox (entry_of t s j)) (sbox-small (entry_of t s j)))

-- the sum of a stage and a constant, cell by cell
pub plus-constant : (t s : ℕ) (k : List ℕ) → fill (2 * t) (λ i j. cell k i j ⊕ by_row i (sbox (entry_of t s j)) 0 0) ≡ plus (2 * t) k (constant t s)
unfolding plus constant
plus-constant t s k =
    let f : ℕ → ℕ → ℕ = λ i j. by_row i (sbox (entry_of t s j)) 0 0 in
    fill_path (2 * t) (λ i j. cell k i j ⊕ f i j) (λ i j. cell k i j ⊕ cell (fill (2 * t) f) i j)
    (λ i j hi hj. ap (bit_xor (cell k i j)) (sym (cell-fill (2 * t) f i j hi hj)))

pub zeros-stage : (n : ℕ) → IsStage n (zeros n)
unfolding zeros
zeros-stage n = filled (λ i j. 0) (λ i j. lit< tt)

pub stage-stage : (t : ℕ) {k : List ℕ} → IsStage (2 * t) k → (s : ℕ) → IsStage (2 * t) (stage t k s)
unfolding stage
stage-stage t h zero = h
stage-stage t h (suc s) = step_stage (2 * t) (plus-stage (2 * t) (stage-stage t h s) (constant-stage t (suc s)))

pub closing_stage : (t : ℕ) → IsStage (2 * t) (closing_sum t)
unfolding closing_sum
closing_stage t = stage-stage t (zeros-stage (2 * t)) (6 * t - 1)
