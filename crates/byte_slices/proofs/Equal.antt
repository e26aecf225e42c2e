-- Bytes that are the same: the test says that two lists are equal, and as a loop makes it.
use mathlib.Core.Path.{◌≡◌, refl, sym, ap, ap₂, ◌∙◌}
use mathlib.Core.Bool.{Bool, true, false, ◌&&◌, false≢true}
use mathlib.Core.List.{List, [], ◌∷◌}
use Prim.Native.Nat.{ℕ, suc, ◌+◌, ◌≤◌, ◌<◌}
use native.Mathlib.Numerals.{add-one}
use native.Mathlib.Omega.{arith}
use lib.Dec.{eqb}
use lib.ListN.{length, get_or, drop, drop_of_length-le}
use lib.Seq.{drop-cons}
use borrow.Author.Tests.{eq-eqb, eqb-true}
use Rattle.std.proofs.Math.Bool.{and_assoc}
use Rattle.basics.proofs.Tests.{and_first, and_second, and_true}
use Rattle.byte_slices.specs.Slices.{same_bytes}

pub same_equal : (a b : List ℕ) → same_bytes a b ≡ true → a ≡ b
unfolding same_bytes
same_equal [] [] e = refl
same_equal [] (y ∷ b) e = absurd (false≢true e)
same_equal (x ∷ a) [] e = absurd (false≢true e)
same_equal (x ∷ a) (y ∷ b) e =
    λ i. eqb-true x y (and_first (eqb x y) (same_bytes a b) e) i ∷ same_equal a b (and_second (eqb x y) (same_bytes a b) e) i

itself : (a : List ℕ) → same_bytes a a ≡ true
unfolding same_bytes
itself [] = refl
itself (x ∷ a) = ap₂ ◌&&◌ (eq-eqb x x refl) (itself a)

pub equal_same : (a b : List ℕ) → a ≡ b → same_bytes a b ≡ true
equal_same a b e = ap (same_bytes a) (sym e) ∙ itself a

-- lists of other lengths are not the same
pub same_length : (a b : List ℕ) → (length a ≡ length b → ⊥) → same_bytes a b ≡ false
unfolding same_bytes
same_length [] [] h = absurd (h refl)
same_length [] (y ∷ b) h = refl
same_length (x ∷ a) [] h = refl
same_length (x ∷ a) (y ∷ b) h = ap (λ (c : Bool). eqb x y && c) (same_length a b (λ e. h (ap suc e))) ∙ and_false (eqb x y)
  where
    and_false : (c : Bool) → (c && false) ≡ false
    and_false true = refl
    and_false false = refl

-- ---- as a loop makes it: what was the same so far, and the rest
module _ (a b : List ℕ) (i : ℕ) (equal : Bool) where
  pub same_next : i < length a → length a ≡ length b
      → (equal && same_bytes (drop i a) (drop i b))
      ≡ ((equal && eqb (get_or a i 0) (get_or b i 0)) && same_bytes (drop (i + 1) a) (drop (i + 1) b))
  unfolding same_bytes
  same_next h l =
      let m : i < length b = omega arith in
      rw (add-one, drop-cons a i 0, drop-cons b i 0) (sym (and_assoc equal (eqb (get_or a i 0) (get_or b i 0)) (same_bytes (drop (suc i) a) (drop (suc i) b))))

  pub same_end : length a ≤ i → length a ≡ length b → (equal && same_bytes (drop i a) (drop i b)) ≡ equal
  unfolding same_bytes
  same_end h l =
      let m : length b ≤ i = omega arith in
      rw (drop_of_length-le a, drop_of_length-le b) (and_true equal)
