-- A test of two lists, element by element.
use mathlib.Core.Path.{◌≡◌, refl, ap₂}
use mathlib.Core.Bool.{Bool, true, false, ◌&&◌}
use mathlib.Core.List.{List, [], ◌∷◌}
use lib.Dec.{T}
use Rattle.field.proofs.Computed.{and_left, and_right}

module _ {A : Type 0} (test : A → A → Bool) where
  unfoldable pub alike : List A → List A → Bool
  alike [] [] = true
  alike [] (y ∷ ys) = false
  alike (x ∷ xs) [] = false
  alike (x ∷ xs) (y ∷ ys) = test x y && alike xs ys

  -- lists that pass are equal, if elements that pass are
  module _ (sound : (x y : A) → T (test x y) → x ≡ y) where
    pub alike_sound : (xs ys : List A) → T (alike xs ys) → xs ≡ ys
    unfolding alike
    alike_sound [] [] t = refl
    alike_sound [] (y ∷ ys) t = absurd t
    alike_sound (x ∷ xs) [] t = absurd t
    alike_sound (x ∷ xs) (y ∷ ys) t =
        ap₂ {C = List A} (λ u us. u ∷ us) (sound x y (and_left (test x y) (alike xs ys) t)) (alike_sound xs ys (and_right (test x y) (alike xs ys) t))

  -- a list passes beside itself, if every element does
  module _ (same : (x : A) → T (test x x)) where
    both : (a b : Bool) → T a → T b → T (a && b)
    both true b s t = t
    both false b s t = absurd s

    pub alike_same : (xs : List A) → T (alike xs xs)
    unfolding alike
    alike_same [] = tt
    alike_same (x ∷ xs) = both (test x x) (alike xs xs) (same x) (alike_same xs)
