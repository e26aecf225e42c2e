-- What the test of a grant's plain bytes says.
use mathlib.Core.Path.{◌≡◌, refl}
use mathlib.Core.Bool.{true}
use mathlib.Core.List.{List}
use Prim.Native.Nat.{ℕ}
use native.Mathlib.Omega.{arith}
use Rattle.roll.specs.Roll.{is_contractor}
use Rattle.rights.specs.Rights.{is_right}
use Rattle.grant.specs.Grants.{contractor_in, right_in, is_marked, is_grant}

module _ (p : List ℕ) where
  pub record Whole : Type 0 where
    pub marked : is_marked p ≡ true
    pub contractor : is_contractor (contractor_in p) ≡ true
    pub right : is_right (right_in p) ≡ true

  pub a_grant : is_grant p ≡ true → Whole
  unfolding is_grant
  a_grant e = record { marked = grind arith; contractor = grind arith; right = grind arith }

  pub is-grant : Whole → is_grant p ≡ true
  unfolding is_grant
  is-grant w = rw (w.marked, w.contractor, w.right) refl
