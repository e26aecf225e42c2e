-- Lists of tries whose numbers are written out: what no refusal says, that some test does not pass, and the greatest number that can be given.
use mathlib.Core.Path.{◌≡◌, refl}
use mathlib.Core.Bool.{Bool, true, false, cond, ◌&&◌}
use mathlib.Core.List.{List, [], ◌∷◌}
use Prim.Native.Nat.{ℕ, zero, suc, ◌<◌}
use native.Mathlib.Omega.{arith}
use lib.Dec.{ltb}
use borrow.Author.Tests.{ltb-true}
use Rattle.basics.proofs.Tests.{and_first, and_second}
use Rattle.refusal.specs.Tries.{Try, first, NoneHolds}
use Rattle.refusal.specs.Claims.{Numbered, Ordered}
use Rattle.refusal.proofs.Tries.{none-given, none-holds, first_of}

-- numbers of a list of tries are never 0, as a test that computes: `refl` for a list that is written out
abbrev pub numbered : List Try → Bool
numbered [] = true
numbered (t ∷ ts) = ltb 0 t.number && numbered ts

pub a_numbered : (ts : List Try) → numbered ts ≡ true → Numbered ts
a_numbered [] e = tt
a_numbered (t ∷ ts) e =
    (ltb-true 0 t.number (and_first (ltb 0 t.number) (numbered ts) e), a_numbered ts (and_second (ltb 0 t.number) (numbered ts) e))

-- where no number is given, every test passes; and a list of tries gives its first reason
pub all_pass : (ts : List Try) → numbered ts ≡ true → first ts ≡ 0 → NoneHolds ts
all_pass ts n e = none-holds ts (a_numbered ts n) e

-- and where one cannot pass, some number is given
pub some-given : (ts : List Try) → numbered ts ≡ true → (NoneHolds ts → ⊥) → 0 < first ts
some-given ts n h = by (first ts) refl
  where
    by : (m : ℕ) → first ts ≡ m → 0 < first ts
    by zero e = absurd (h (all_pass ts n e))
    by (suc m) e = omega (arith, e)

pub ordered : (ts : List Try) → numbered ts ≡ true → Ordered ts
ordered ts n = record { none-given = none-given ts; none-holds = all_pass ts n; given-first = first_of ts }

-- a number that a list can give is below m, as a test that computes
abbrev pub small : ℕ → List Try → Bool
small m [] = ltb 0 m
small m (t ∷ ts) = ltb t.number m && small m ts

pub first_small : (m : ℕ) (ts : List Try) → small m ts ≡ true → first ts < m
unfolding first
first_small m [] e = ltb-true 0 m e
first_small m (t ∷ ts) e =
    by t.passes (first_small m ts (and_second (ltb t.number m) (small m ts) e)) (ltb-true t.number m (and_first (ltb t.number m) (small m ts) e))
  where
    by : (b : Bool) → first ts < m → t.number < m → cond b (first ts) t.number < m
    by true h l = h
    by false h l = l
