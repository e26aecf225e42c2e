-- A stage added to another in place, byte after byte.
use mathlib.Core.Path.{◌≡◌, sym, ap, ◌∙◌}
use mathlib.Core.List.{List, ◌∷◌, ◌++◌}
use Prim.Native.Nat.{ℕ, suc, ◌+◌, ◌*◌, ◌/◌, ◌%◌, ◌<◌}
use native.Mathlib.Numerals.{add-one}
use native.Mathlib.Omega.{arith}
use lib.Bits.{bit_xor}
use lib.ListN.{length, get_or, take, drop, set, get_or-append}
use lib.Seq.{length-take-le, take-suc, drop-cons, append_snoc, set_at, get_or_at}
use Rattle.field.specs.Field.{◌⊕◌}
use Rattle.stages.specs.Columns.{cell, plus, padded}
use Rattle.stages.proofs.Columns.{cell-fill}

-- byte i of the sum, where the second stage stands in 24 bytes
pub sum_byte : (t : ℕ) (k a b : List ℕ) (i : ℕ) → b ≡ padded a → length a ≡ 3 * (2 * t) → i < 6 * t
    → get_or k i 0 ⊕ get_or b i 0 ≡ get_or (plus (2 * t) k a) i 0
unfolding plus padded
sum_byte t k a b i e l h =
    let z : i % 3 + 3 * (i / 3) ≡ i = omega arith in
    ap (λ (x : List ℕ). get_or k i 0 ⊕ get_or x i 0) e
    ∙ ap (bit_xor (get_or k i 0)) (get_or-append a _ 0 i (omega arith))
    ∙ ap (λ (x : ℕ). get_or k x 0 ⊕ get_or a x 0) (sym z)
    ∙ sym (cell-fill (2 * t) (λ i j. cell k i j ⊕ cell a i j) (i % 3) (i / 3) (omega arith) (omega arith))
    ∙ ap (λ (x : ℕ). get_or (plus (2 * t) k a) x 0) z

-- i bytes of p, then what stood there before
module _ (p k out : List ℕ) (i : ℕ) (hp : i < length p) (hk : i < length k) (e : out ≡ take i p ++ drop i k) where
  opened : out ≡ take i p ++ (get_or k i 0 ∷ drop (suc i) k)
  opened = e ∙ ap (λ (l : List ℕ). take i p ++ l) (drop-cons k i 0 hk)

  pub byte_unwritten : get_or out i 0 ≡ get_or k i 0
  byte_unwritten = ap (λ (l : List ℕ). get_or l i 0) opened ∙ get_or_at (take i p) _ _ 0 i (length-take-le i p (omega arith))

  pub byte_put : (x : ℕ) → x ≡ get_or p i 0 → set out i x ≡ take (i + 1) p ++ drop (i + 1) k
  byte_put x ex =
      ap (λ (l : List ℕ). set l i x) opened
      ∙ set_at (take i p) _ _ x i (length-take-le i p (omega arith))
      ∙ ap (λ (y : ℕ). take i p ++ (y ∷ drop (suc i) k)) ex
      ∙ sym (append_snoc (take i p) (get_or p i 0) (drop (suc i) k))
      ∙ ap (λ (l : List ℕ). l ++ drop (suc i) k) (sym (take-suc p i 0 hp))
      ∙ ap (λ (m : ℕ). take m p ++ drop m k) (sym (add-one i))
