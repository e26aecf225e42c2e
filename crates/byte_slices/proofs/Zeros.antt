-- Bytes that are zero: the test of them.
use mathlib.Core.Path.{◌≡◌, refl, sym, ap, ◌∙◌}
use mathlib.Core.Bool.{Bool, true, ◌&&◌}
use mathlib.Core.List.{List, [], ◌∷◌, ◌++◌}
use Prim.Native.Nat.{ℕ, zero, suc}
use lib.Dec.{eqb}
use lib.ListN.{length, replicate}
use borrow.Author.Tests.{eqb-true}
use Rattle.std.proofs.Math.Bool.{and_assoc}
use Rattle.std.specs.List.{list_all}
use Rattle.basics.proofs.Tests.{and_first, and_second}
use Rattle.byte_slices.specs.Slices.{all_zero}

-- as the library tests every byte
pub each_zero : (bs : List ℕ) → list_all (λ b. eqb b 0) bs ≡ all_zero bs
unfolding all_zero
each_zero [] = refl
each_zero (b ∷ bs) = ap (λ (c : Bool). eqb b 0 && c) (each_zero bs)

-- zeros, and nothing else, are all zero
pub zeros : (n : ℕ) → all_zero (replicate n 0) ≡ true
unfolding all_zero
zeros zero = refl
zeros (suc n) = zeros n

pub zeros_are : (l : List ℕ) → all_zero l ≡ true → l ≡ replicate (length l) 0
unfolding all_zero
zeros_are [] e = refl
zeros_are (b ∷ bs) e = λ i. eqb-true b 0 (and_first (eqb b 0) (all_zero bs) e) i ∷ zeros_are bs (and_second (eqb b 0) (all_zero bs) e) i

-- some bytes after others
pub zeros_both : (xs ys : List ℕ) → all_zero (xs ++ ys) ≡ (all_zero xs && all_zero ys)
unfolding all_zero
zeros_both [] ys = refl
zeros_both (x ∷ xs) ys = ap (λ (b : Bool). eqb x 0 && b) (zeros_both xs ys) ∙ sym (and_assoc (eqb x 0) (all_zero xs) (all_zero ys))
