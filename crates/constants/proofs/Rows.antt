-- Constant s added to row 0 of a stage in place, column after column: the other rows of a constant are zero.
use mathlib.Core.Path.{◌≡◌, sym, ap, ap₂, ◌∙◌}
use mathlib.Core.List.{List}
use Prim.Native.Nat.{ℕ, ◌+◌, ◌*◌, ◌<◌}
use native.Mathlib.Omega.{arith}
use lib.ListN.{length, get_or, set}
use Rattle.field.specs.Field.{◌⊕◌}
use Rattle.field.proofs.Addition.{zero_right}
use Rattle.sbox.specs.Sbox.{sbox}
use Rattle.sizes.specs.Sizes.{Sized}
use Rattle.stages.specs.Columns.{cell}
use Rattle.stages.specs.Stages.{by_row, entry_of}
use Rattle.stages.proofs.Written.{upto, unwritten, row_put}

-- what row i, column j has in the sum
abbrev pub summed : ℕ → ℕ → List ℕ → ℕ → ℕ → ℕ
summed t s k i j = cell k i j ⊕ by_row i (sbox (entry_of t s j)) 0 0

-- one more column, whose byte of row 0 stands at p
pub entry_put : (t s : ℕ) (k out : List ℕ) (j p : ℕ) → Sized t → length k ≡ 24 → j < 2 * t → p ≡ 3 * j → out ≡ upto (summed t s k) j k
    → (y : ℕ) → y ≡ sbox (entry_of t s j) → set out p (get_or out p 0 ⊕ y) ≡ upto (summed t s k) (j + 1) k
entry_put t s k out j p z l h ep e y ey =
    let f = summed t s k in
    let at : p ≡ 0 + 3 * j = omega (arith, ep) in
    let x = unwritten f j k out p e (omega (arith, ep)) ∙ ap (λ (m : ℕ). get_or k m 0) at in
    ap (λ (m : ℕ). set out m (get_or out p 0 ⊕ y)) ep
    ∙ row_put f j k out (omega (arith, z.most)) e _ (ap₂ ◌⊕◌ x ey) (sym (zero_right (cell k 1 j))) (sym (zero_right (cell k 2 j)))
