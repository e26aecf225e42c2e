-- What a key's length says of its t: one test, computed at each of the three lengths.
use mathlib.Core.Path.{◌≡◌, refl, sym, subst}
use mathlib.Core.Bool.{Bool, true, false, ◌||◌}
use Prim.Native.Nat.{ℕ, ◌*◌, ◌≤◌}
use native.Mathlib.Omega.{arith}
use lib.Dec.{eqb, leb}
use borrow.Author.Tests.{eqb-true, leb-true}
use Rattle.sizes.specs.Sizes.{Sized, key_length, t_of}

either {ℓ} : (P : Type ℓ) (a b : Bool) → (a || b) ≡ true → (a ≡ true → P) → (b ≡ true → P) → P
either P true b e f g = f refl
either P false b e f g = g e

-- what holds of 12, 18 and 24 holds of every key length
pub lengths {ℓ} : (P : ℕ → Type ℓ) → P 12 → P 18 → P 24 → (n : ℕ) → key_length n ≡ true → P n
lengths P a b c n e =
    either (P n) (eqb n 12) (eqb n 18 || eqb n 24) e (λ x. subst P (sym (eqb-true n 12 x)) a)
    (λ y. either (P n) (eqb n 18) (eqb n 24) y (λ x. subst P (sym (eqb-true n 18 x)) b) (λ x. subst P (sym (eqb-true n 24 x)) c))

abbrev Tested : ℕ → Type 0
Tested n = (6 * t_of n ≡ n) × ((leb 2 (t_of n) ≡ true) × (leb (t_of n) 4 ≡ true))

pub record Key (n : ℕ) : Type 0 where
  pub sized : Sized (t_of n)
  pub is : 6 * t_of n ≡ n
  pub most : n ≤ 24

pub a_key : (n : ℕ) → key_length n ≡ true → Key n
a_key n e =
    let t = lengths Tested (refl, (refl, refl)) (refl, (refl, refl)) (refl, (refl, refl)) n e in
    let most = leb-true (t_of n) 4 t.1.1 in
    record { sized = record { least = leb-true 2 (t_of n) t.1.0; most = most }; is = t.0; most = omega (arith, t.0, most) }
