-- Standing and rights over lists of calls in which a contractor is not withdrawn, or not given the right to overwrite.
use mathlib.Core.Path.{◌≡◌, refl, sym, ap, ◌∙◌, subst, subst⁻¹}
use mathlib.Core.Bool.{Bool, true, false}
use mathlib.Core.List.{List, [], ◌∷◌}
use Prim.Native.Nat.{ℕ, ◌<◌}
use native.Mathlib.Omega.{arith}
use lib.Dec.{eqb}
use borrow.Author.Tests.{eqb-true, eqb-false}
use Rattle.roll.specs.declared.Roll.{Roll}
use Rattle.roll.specs.declared.Entry.{Entry}
use Rattle.roll.specs.Roll.{count_of, figure_of, in_standing}
use Rattle.roll_changes.specs.Changes.{enter_number, change_number}
use Rattle.histories.specs.Histories.{Change, enter, change, withdraw, contractor_of, number_of, changed, roll_after, Withdrawn, here, later}
use Rattle.histories.specs.Histories.{Raised, by_change, by_entering, raised-later, IsRoll}
use Rattle.histories.proofs.Calls.{changed-refused, changed_other, changed-own, changed_roll_lem}
use Rattle.histories.proofs.Counts.{count_other, stays_once}

-- ---- not withdrawn
stays-first : (h : Change) (hs : List Change) (roll : Roll) (c : ℕ) → in_standing (count_of roll c) ≡ true
    → (Withdrawn c (h ∷ hs) roll → ⊥) → count_of (changed h roll) c ≡ count_of roll c
stays-first h hs roll c s n = by (eqb c (contractor_of h)) refl
  where
    by : (b : Bool) → eqb c (contractor_of h) ≡ b → count_of (changed h roll) c ≡ count_of roll c
    by true e = stays_once h roll c (eqb-true c (contractor_of h) e) s
        (λ z w. n (subst⁻¹ (λ (x : Change). Withdrawn c (x ∷ hs) roll) w (here z)))
    by false e = count_other h roll c (eqb-false c (contractor_of h) e)

pub stays : (hs : List Change) (roll : Roll) (c : ℕ) → in_standing (count_of roll c) ≡ true → (Withdrawn c hs roll → ⊥)
    → count_of (roll_after hs roll) c ≡ count_of roll c
unfolding roll_after
stays [] roll c s n = refl
stays (h ∷ hs) roll c s n =
    let e = stays-first h hs roll c s n in stays hs (changed h roll) c (ap in_standing e ∙ s) (λ w. n (later w)) ∙ e

-- ---- not raised
-- the figure that a call on c itself leaves
own_figure : (h : Change) (hs : List Change) (roll : Roll) → IsRoll roll → (figure_of roll (contractor_of h) ≡ 2 → ⊥)
    → (Raised (contractor_of h) (h ∷ hs) roll → ⊥) → figure_of (changed h roll) (contractor_of h) ≡ 2 → ⊥
own_figure h hs roll is low n two = by (eqb (number_of h roll) 0) refl
  where
    given : (h : Change) → (Raised (contractor_of h) (h ∷ hs) roll → ⊥) → number_of h roll ≡ 0
        → figure_of (changed h roll) (contractor_of h) ≡ 2 → ⊥
    given (enter c r) n z two =
        let e : r ≡ 2 = sym (ap (λ (x : Entry). x.figure) (changed-own (enter c r) roll is z)) ∙ two in
        n (subst⁻¹ (λ (x : ℕ). Raised c (enter c x ∷ hs) roll) e (by_entering (ap (enter_number roll c) (sym e) ∙ z)))
    given (change c r) n z two =
        let e : r ≡ 2 = sym (ap (λ (x : Entry). x.figure) (changed-own (change c r) roll is z)) ∙ two in
        n (subst⁻¹ (λ (x : ℕ). Raised c (change c x ∷ hs) roll) e (by_change (ap (change_number roll c) (sym e) ∙ z)))
    given (withdraw c) n z two =
        let e = changed-own (withdraw c) roll is z in omega (arith, ap (λ (x : Entry). x.figure) e, two)

    by : (b : Bool) → eqb (number_of h roll) 0 ≡ b → ⊥
    by true e = given h n (eqb-true (number_of h roll) 0 e) two
    by false e =
        let l : 0 < number_of h roll = omega (arith, eqb-false (number_of h roll) 0 e) in
        low (sym (ap (λ (x : Roll). figure_of x (contractor_of h)) (changed-refused h roll l)) ∙ two)

low_first : (h : Change) (hs : List Change) (roll : Roll) → IsRoll roll → (c : ℕ) → (figure_of roll c ≡ 2 → ⊥)
    → (Raised c (h ∷ hs) roll → ⊥) → figure_of (changed h roll) c ≡ 2 → ⊥
low_first h hs roll is c low n two = by (eqb c (contractor_of h)) refl
  where
    by : (b : Bool) → eqb c (contractor_of h) ≡ b → ⊥
    by true e =
        let z = eqb-true c (contractor_of h) e in
        own_figure h hs roll is (subst (λ (x : ℕ). figure_of roll x ≡ 2 → ⊥) z low) (subst (λ (x : ℕ). Raised x (h ∷ hs) roll → ⊥) z n)
        (ap (figure_of (changed h roll)) (sym z) ∙ two)
    by false e = low (sym (ap (λ (x : Entry). x.figure) (changed_other h roll c (eqb-false c (contractor_of h) e))) ∙ two)

pub stays-low : (hs : List Change) (roll : Roll) → IsRoll roll → (c : ℕ) → (figure_of roll c ≡ 2 → ⊥) → (Raised c hs roll → ⊥)
    → figure_of (roll_after hs roll) c ≡ 2 → ⊥
unfolding roll_after
stays-low [] roll is c low n two = low two
stays-low (h ∷ hs) roll is c low n two =
    stays-low hs (changed h roll) (changed_roll_lem h roll is) c (low_first h hs roll is c low n) (λ w. n (raised-later w)) two
