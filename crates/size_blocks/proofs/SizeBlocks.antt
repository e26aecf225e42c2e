-- Laws of size blocks: the test as a statement, both ways.
use mathlib.Core.Path.{◌≡◌, refl, sym, ap, ◌∙◌}
use mathlib.Core.Bool.{Bool, true, false, not, false≢true}
use Prim.Native.Nat.{ℕ}
use lib.Dec.{eqb}
use borrow.Author.Tests.{eqb-true, eq-eqb, ne_eqb}
use Rattle.size_blocks.specs.SizeBlocks.{is_size_block}

pub zero_is_none : (block : ℕ) → block ≡ 0 → is_size_block block ≡ false
unfolding is_size_block
zero_is_none block e = ap not (eq-eqb block 0 e)

pub is-size_block : (block : ℕ) → (block ≡ 0 → ⊥) → is_size_block block ≡ true
unfolding is_size_block
is-size_block block h = ap not (ne_eqb block 0 h)

pub other_than_zero : (block : ℕ) → is_size_block block ≡ true → block ≡ 0 → ⊥
other_than_zero block t e = false≢true (sym (zero_is_none block e) ∙ t)

-- what does not pass is 0
pub is_zero : (block : ℕ) → is_size_block block ≡ false → block ≡ 0
unfolding is_size_block
is_zero block e = by (eqb block 0) refl e
  where
    by : (b : Bool) → eqb block 0 ≡ b → not b ≡ false → block ≡ 0
    by true p e = eqb-true block 0 p
    by false p e = absurd (false≢true (sym e))
