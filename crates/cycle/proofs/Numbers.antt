-- Stage numbers around the turn.
use mathlib.Core.Path.{◌≡◌, refl, sym, ap, ◌∙◌, subst}
use mathlib.Core.Logic.{inl, inr}
use mathlib.Core.Bool.{Bool, cond}
use Prim.Native.Nat.{ℕ, zero, suc, ◌+◌, ◌-◌, ◌%◌, ◌≤◌, ◌<◌}
use native.Mathlib.Nat.{eq-or-lt_of_le, mod_self, mod-lt, mod-eq_of_lt}
use native.Mathlib.Omega.{arith}
use native.Mathlib.Numerals.{add-one}
use borrow.Author.Tests.{lt-ltb, le-ltb}
use Rattle.sizes.specs.Sizes.{turn}
use Rattle.cycle.specs.Cycle.{following, preceding}

pub following_on : (t s : ℕ) → suc s < turn t → following t s ≡ suc s
unfolding following
following_on t s h = ap (λ (b : Bool). cond b (suc s) 0) (lt-ltb (suc s) (turn t) h)

pub following_last : (t s : ℕ) → turn t ≤ suc s → following t s ≡ 0
unfolding following
following_last t s h = ap (λ (b : Bool). cond b (suc s) 0) (le-ltb (suc s) (turn t) h)

pub preceding_back : (t s : ℕ) → 0 < s → preceding t s ≡ s - 1
unfolding preceding
preceding_back t zero h = let z : ⊥ = omega arith in absurd z
preceding_back t (suc s) h = omega arith

pub preceding_first : (t s : ℕ) → s ≤ 0 → preceding t s ≡ turn t - 1
unfolding preceding
preceding_first t zero h = refl
preceding_first t (suc s) h = let z : ⊥ = omega arith in absurd z

-- both, counted around the turn
pub following-is : (t s : ℕ) → s < turn t → following t s ≡ (s + 1) % turn t
following-is t s h = elim (eq-or-lt_of_le h) [
  | inl e ↦ let z : s + 1 ≡ turn t = omega (arith, e) in following_last t s (omega arith) ∙ sym (ap (λ (x : ℕ). x % turn t) z ∙ mod_self (turn t))
  | inr l ↦ let z : s + 1 < turn t = omega arith in following_on t s l ∙ sym (mod-eq_of_lt z ∙ add-one s)
]

pub following-below : (t s : ℕ) → s < turn t → following t s < turn t
following-below t s h = subst (λ (x : ℕ). x < turn t) (sym (following-is t s h)) (mod-lt (s + 1) (omega arith))

pub preceding-below : (t s : ℕ) → s < turn t → preceding t s < turn t
unfolding preceding
preceding-below t zero h = omega arith
preceding-below t (suc s) h = omega arith

pub back_on : (t s : ℕ) → s < turn t → preceding t (following t s) ≡ s
back_on t s h = elim (eq-or-lt_of_le h) [
  | inl e ↦ ap (preceding t) (following_last t s (omega arith)) ∙ preceding_first t 0 (omega arith) ∙ omega arith
  | inr l ↦ ap (preceding t) (following_on t s l) ∙ preceding_back t (suc s) (omega arith) ∙ omega arith
]

pub on_back : (t s : ℕ) → s < turn t → following t (preceding t s) ≡ s
unfolding preceding
on_back t zero h = following_last t (turn t - 1) (omega arith)
on_back t (suc s) h = following_on t s h
