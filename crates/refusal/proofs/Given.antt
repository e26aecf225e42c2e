-- A number that one try alone has: where it is given, that try's reason holds, and none before it does.
use mathlib.Core.Path.{◌≡◌, refl, sym, ap, ◌∙◌}
use mathlib.Core.Bool.{Bool, true, false, ◌&&◌, not, true≢false}
use mathlib.Core.List.{List, [], ◌∷◌, ◌++◌}
use Prim.Native.Nat.{ℕ, ◌<◌}
use native.Mathlib.Omega.{arith}
use lib.Dec.{eqb}
use borrow.Author.Tests.{eq-eqb}
use Rattle.basics.proofs.Tests.{and_first, and_second}
use Rattle.refusal.specs.Tries.{Try, ◌unless◌, first, NoneHolds}
use Rattle.refusal.proofs.Tries.{first_passes, first_holds, first_then}

-- no try of a list has the number n: computed, where the numbers are written out
abbrev pub others : ℕ → List Try → Bool
others n [] = true
others n (t ∷ ts) = not (eqb t.number n) && others n ts

apart : (m n : ℕ) → not (eqb m n) ≡ true → m ≡ n → ⊥
apart m n e h = true≢false (sym e ∙ ap not (eq-eqb m n h))

pub not_given : (n : ℕ) → 0 < n → (ts : List Try) → others n ts ≡ true → first ts ≡ n → ⊥
unfolding first
not_given n h [] o e = omega (arith, h, e)
not_given n h (t ∷ ts) o e = by t.passes refl (not_given n h ts (and_second (not (eqb t.number n)) (others n ts) o))
  where
    by : (b : Bool) → t.passes ≡ b → (first ts ≡ n → ⊥) → ⊥
    by true p more = more (sym (first_passes t ts p) ∙ e)
    by false p more = apart t.number n (and_first (not (eqb t.number n)) (others n ts) o) (sym (first_holds t ts p) ∙ e)

-- where a number is given that no try of the first part has, none of that part holds
pub passed-before : (n : ℕ) (xs ys : List Try) → others n xs ≡ true → first (xs ++ ys) ≡ n → NoneHolds xs
passed-before n [] ys o e = tt
passed-before n (x ∷ xs) ys o e = by x.passes refl (passed-before n xs ys (and_second (not (eqb x.number n)) (others n xs) o))
  where
    by : (c : Bool) → x.passes ≡ c → (first (xs ++ ys) ≡ n → NoneHolds xs) → NoneHolds (x ∷ xs)
    by true p more = (p, more (sym (first_passes x (xs ++ ys) p) ∙ e))
    by false p more = absurd (apart x.number n (and_first (not (eqb x.number n)) (others n xs) o) (sym (first_holds x (xs ++ ys) p) ∙ e))

-- and the try that has it holds, where no later one does
pub given_by : (n : ℕ) → 0 < n → (b : Bool) (ys : List Try) → others n ys ≡ true
    → (xs : List Try) → others n xs ≡ true → first (xs ++ ((n unless b) ∷ ys)) ≡ n → NoneHolds xs × (b ≡ false)
given_by n h b ys after xs o e = let p = passed-before n xs _ o e in (p, by b refl (sym (first_then xs ((n unless b) ∷ ys) p) ∙ e))
  where
    by : (c : Bool) → b ≡ c → first ((n unless b) ∷ ys) ≡ n → b ≡ false
    by true q e = absurd (not_given n h ys after (sym (first_passes (n unless b) ys q) ∙ e))
    by false q e = q
