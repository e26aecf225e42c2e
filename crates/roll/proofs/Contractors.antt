-- What the tests of a contractor's number and of a count say.
use mathlib.Core.Path.{◌≡◌, ap}
use mathlib.Core.Bool.{Bool, true, false, cond}
use Prim.Native.Nat.{ℕ, ◌-◌, ◌%◌, ◌≤◌, ◌<◌}
use lib.ListN.{get_or}
use native.Mathlib.Omega.{arith}
use Rattle.std.proofs.lemmas.Bool.Decides.{nat_tests}
use Rattle.roll.specs.declared.Roll.{Roll}
use Rattle.roll.specs.Roll.{is_contractor, count_of, figure_of, entry_of, in_standing}

-- a contractor's number
pub record Contractor (c : ℕ) : Type 0 where
  pub least : 1 ≤ c
  pub most : c ≤ 200

pub a_contractor : (c : ℕ) → is_contractor c ≡ true → Contractor c
a_contractor c e = record { least = grind (arith, nat_tests); most = grind (arith, nat_tests) }

pub is-contractor : (c : ℕ) → Contractor c → is_contractor c ≡ true
is-contractor c h = grind (arith, nat_tests)

-- the count and the figure of a contractor, and the entry of nobody
pub count-is : (roll : Roll) (c : ℕ) → is_contractor c ≡ true → count_of roll c ≡ get_or roll.counts (c - 1) 0
unfolding count_of
count-is roll c e = ap (λ (b : Bool). cond b (get_or roll.counts (c - 1) 0) 0) e

pub figure_is : (roll : Roll) (c : ℕ) → is_contractor c ≡ true → figure_of roll c ≡ get_or roll.rights (c - 1) 0
unfolding figure_of
figure_is roll c e = ap (λ (b : Bool). cond b (get_or roll.rights (c - 1) 0) 0) e

pub nobody : (roll : Roll) (c : ℕ) → is_contractor c ≡ false → entry_of roll c ≡ record { count = 0; figure = 0 }
unfolding count_of figure_of
nobody roll c e i = record {
  count = ap (λ (b : Bool). cond b (get_or roll.counts (c - 1) 0) 0) e i;
  figure = ap (λ (b : Bool). cond b (get_or roll.rights (c - 1) 0) 0) e i;
}

-- a count in standing
pub record Standing (n : ℕ) : Type 0 where
  pub odd : n % 2 ≡ 1
  pub below : n < 65535

pub a_standing : (n : ℕ) → in_standing n ≡ true → Standing n
unfolding in_standing
a_standing n e = record { odd = grind (arith, nat_tests); below = grind (arith, nat_tests) }

pub is_standing : (n : ℕ) → Standing n → in_standing n ≡ true
unfolding in_standing
is_standing n h = grind (arith, nat_tests)
