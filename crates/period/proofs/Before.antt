-- No smaller positive power of the linear step than 6t is the identity: each moves the stage with 01 in row 0, column 0, and zeros.
use mathlib.Core.Path.{◌≡◌, refl, sym, ap, subst}
use mathlib.Core.Logic.{◌≢◌}
use mathlib.Core.Bool.{Bool, true, not, ◌&&◌}
use mathlib.Core.List.{List}
use Prim.Native.Nat.{ℕ, zero, suc, ◌+◌, ◌-◌, ◌*◌, ◌<◌}
use native.Mathlib.Nat.{not-suc-le-zero, le_of_suc-le-suc}
use native.Mathlib.Omega.{arith}
use lib.Dec.{T, T_not, eqb, eqb_refl, lit<}
use Rattle.field.specs.Field.{times, product, reduced}
use Rattle.field.proofs.Computed.{and_left, and_right, all, passed}
use Rattle.stages.specs.Columns.{columns, fill, IsStage, filled, column_rule}
use Rattle.sizes.specs.Sizes.{Sized}
use Rattle.stages.specs.Stages.{by_row, moved, linear_step}
use Rattle.basics.specs.Repeated.{repeated}
use Rattle.stages.proofs.Alike.{alike, alike_same}

one_at : ℕ → ℕ → ℕ
one_at i zero = by_row i 1 0 0
one_at i (suc j) = 0

one_small : (i j : ℕ) → one_at i j < 256
unfolding one_at
one_small zero zero = lit< tt
one_small (suc zero) zero = lit< tt
one_small (suc (suc i)) zero = lit< tt
one_small i (suc j) = lit< tt

one : ℕ → List ℕ
one n = fill n one_at

-- x is not `one n`
other : ℕ → List ℕ → Bool
other n x = not (alike eqb x (one n))

-- none of the m stages after x is
away : ℕ → ℕ → List ℕ → Bool
away n zero x = true
away n (suc m) x = other n (linear_step n x) && away n m (linear_step n x)

inside : (m : ℕ) (f : List ℕ → List ℕ) (x : List ℕ) → repeated m f (f x) ≡ f (repeated m f x)
inside zero f x = refl
inside (suc m) f x = ap f (inside m f x)

away_at : (n m : ℕ) (x : List ℕ) → T (away n m x) → (k : ℕ) → k < m → T (other n (repeated (suc k) (linear_step n) x))
unfolding away
away_at n zero x t k h = absurd (not-suc-le-zero h)
away_at n (suc m) x t zero h = and_left (other n (linear_step n x)) (away n m (linear_step n x)) t
away_at n (suc m) x t (suc k) h =
    subst (λ (y : List ℕ). T (other n (linear_step n y))) (inside k (linear_step n) x)
    (away_at n m (linear_step n x) (and_right (other n (linear_step n x)) (away n m (linear_step n x)) t) k (le_of_suc-le-suc h))

-- the powers 1 to 6t - 1, at t = 2, 3 and 4
stays_away : ℕ → Bool
stays_away t = away (2 * t) (6 * t - 1) (one (2 * t))

stay_away : T (all 3 (λ u. stays_away (2 + u)))
unfolding stays_away away other alike one one_at linear_step moved column_rule columns times product reduced
stay_away = tt

moved_by : (n : ℕ) (x : List ℕ) → T (other n x) → x ≢ one n
unfolding other
moved_by n x t e = T_not (alike eqb x (one n)) t (subst (λ (y : List ℕ). T (alike eqb y (one n))) (sym e) (alike_same eqb eqb_refl (one n)))

pub not_before : (t : ℕ) → Sized t → (m : ℕ) → 0 < m → m < 6 * t
    → (k : List ℕ) × (IsStage (2 * t) k × (repeated m (linear_step (2 * t)) k ≢ k))
unfolding one stays_away
not_before t z zero p q = absurd (not-suc-le-zero p)
not_before t z (suc m) p q =
    (one (2 * t), (filled one_at one_small, moved_by (2 * t) _ (away_at (2 * t) (6 * t - 1) (one (2 * t)) test m (omega arith))))
  where
    e : 2 + (t - 2) ≡ t
    e = omega (arith, z.least)

    test : T (stays_away t)
    test = subst (λ (x : ℕ). T (stays_away x)) e (passed 3 (λ u. stays_away (2 + u)) stay_away (t - 2) (omega (arith, z.least, z.most)))
