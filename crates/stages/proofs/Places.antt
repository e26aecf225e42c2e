-- Columns around n.
use mathlib.Core.Path.{◌≡◌, sym, ap, ◌∙◌}
use Prim.Native.Nat.{ℕ, ◌+◌, ◌-◌, ◌%◌, ◌≤◌, ◌<◌}
use native.Mathlib.Nat.{mod_self, mod-eq_of_lt, add-mod_right}
use native.Mathlib.Omega.{arith}
use Rattle.stages.specs.Stages.{next, previous}

pub next_on : (n j : ℕ) → j + 1 < n → j + 1 ≡ next n j
next_on n j h = sym (mod-eq_of_lt h)

pub next_around : (n j : ℕ) → j < n → n ≤ j + 1 → 0 ≡ next n j
next_around n j h l = sym (ap (λ (x : ℕ). x % n) (omega arith) ∙ mod_self n)

pub previous_around : (n j : ℕ) → j < n → j ≤ 0 → n - 1 ≡ previous n j
previous_around n j h z = sym (ap (λ (x : ℕ). x % n) e ∙ mod-eq_of_lt (omega arith))
  where
    e : j + (n - 1) ≡ n - 1
    e = omega arith

pub previous-next : (n j : ℕ) → j < n → j ≡ previous n (j + 1)
previous-next n j h = sym (ap (λ (x : ℕ). x % n) e ∙ add-mod_right j n ∙ mod-eq_of_lt h)
  where
    e : j + 1 + (n - 1) ≡ j + n
    e = omega arith
