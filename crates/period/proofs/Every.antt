-- Every step of the turn, the closing one among them: a stage is the steps of its key plus the stage of the key of zeros, so the closing sum,
-- added to the last stage, leaves the steps of the key alone, and one step more comes home.
use mathlib.Core.Path.{◌≡◌, refl, sym, ap, ap₂, ◌∙◌}
use mathlib.Core.Logic.{inl, inr}
use mathlib.Core.List.{List}
use Prim.Native.Nat.{ℕ, zero, suc, ◌-◌, ◌*◌, ◌%◌, ◌≤◌, ◌<◌}
use native.Mathlib.Nat.{not-suc-le-zero, eq-or-lt_of_le, mod_self, mod-eq_of_lt}
use native.Mathlib.Omega.{arith}
use Rattle.stages.specs.Columns.{IsStage, plus}
use Rattle.sizes.specs.Sizes.{Sized, turn}
use Rattle.stages.specs.Stages.{linear_step, constant, stage, zeros, closing_sum, stage_after}
use Rattle.stages.proofs.Columns.{refill}
use Rattle.stages.proofs.Padded.{stage-length}
use Rattle.stages.proofs.Steps.{plus-stage, step_stage, step_plus, plus_assoc, plus_undone}
use Rattle.stages.proofs.Stages.{constant-stage, zeros-stage, stage-stage}
use Rattle.stages.proofs.Constants.{closing_constant, plus_zero_cells, inner_step}
use Rattle.basics.specs.Repeated.{repeated}
use Rattle.period.proofs.Home.{period}

repeated-stage : (n m : ℕ) {k : List ℕ} → IsStage n k → IsStage n (repeated m (linear_step n) k)
repeated-stage n zero h = h
repeated-stage n (suc m) h = step_stage n (repeated-stage n m h)

plus-zeros : (n : ℕ) {k : List ℕ} → IsStage n k → plus n k (zeros n) ≡ k
plus-zeros n {k} h = plus_zero_cells n k ∙ refill n k (stage-length n h)

parted : (t : ℕ) {k : List ℕ} → IsStage (2 * t) k → (s : ℕ)
    → stage t k s ≡ plus (2 * t) (repeated s (linear_step (2 * t)) k) (stage t (zeros (2 * t)) s)
unfolding stage
parted t h zero = sym (plus-zeros (2 * t) h)
parted t {k} h (suc s) =
    let z = zeros-stage (2 * t) in
    ap (λ (x : List ℕ). linear_step (2 * t) (plus (2 * t) x (constant t (suc s)))) (parted t h s)
    ∙ ap (linear_step (2 * t)) (plus_assoc (2 * t) (repeated-stage (2 * t) s h) (stage-stage t z s) (constant-stage t (suc s)))
    ∙ step_plus (2 * t) (repeated-stage (2 * t) s h) (plus-stage (2 * t) (stage-stage t z s) (constant-stage t (suc s)))

last_step : (t : ℕ) → Sized t → {k : List ℕ} → IsStage (2 * t) k → stage_after t (turn t) (stage t k (turn t - 1)) ≡ k
unfolding stage_after closing_sum
last_step t z {k} h =
    ap₂ (λ (x c : List ℕ). linear_step (2 * t) (plus (2 * t) x c)) (parted t h (6 * t - 1)) (closing_constant t (turn t) refl)
    ∙ ap (linear_step (2 * t)) (plus_undone (2 * t) (repeated-stage (2 * t) (6 * t - 1) h) (stage-stage t (zeros-stage (2 * t)) (6 * t - 1)))
    ∙ ap (λ (m : ℕ). repeated m (linear_step (2 * t)) k) e
    ∙ period t z h
  where
    e : suc (6 * t - 1) ≡ 6 * t
    e = omega (arith, z.least)

-- below the turn by the definition of stage s, and at the turn by the last step
pub each_step : (t : ℕ) → Sized t → {k : List ℕ} → IsStage (2 * t) k → (s : ℕ) → 0 < s → s ≤ turn t
    → stage t k (s % turn t) ≡ stage_after t s (stage t k (s - 1))
unfolding stage stage_after
each_step t z h zero p q = absurd (not-suc-le-zero p)
each_step t z {k} h (suc s) p q = elim (eq-or-lt_of_le q) [
  | inl e ↦
      ap (stage t k) (ap (λ (m : ℕ). m % turn t) e ∙ mod_self (turn t))
      ∙ sym (last_step t z h)
      ∙ ap (λ (m : ℕ). stage_after t m (stage t k (m - 1))) (sym e)
  | inr l ↦
      let e : s ≡ suc s - 1 = omega arith in
      ap (stage t k) (mod-eq_of_lt l) ∙ inner_step t k s l ∙ ap (λ (m : ℕ). stage_after t (suc s) (stage t k m)) e
]

pub again : (t : ℕ) → Sized t → {k : List ℕ} → IsStage (2 * t) k → linear_step (2 * t) (plus (2 * t) (stage t k (6 * t - 1)) (closing_sum t)) ≡ k
unfolding stage stage_after
again t z {k} h =
    ap (λ (x : List ℕ). linear_step (2 * t) (plus (2 * t) (stage t k (6 * t - 1)) x)) (sym (closing_constant t (turn t) refl))
    ∙ sym (each_step t z h (turn t) (omega (arith, z.least)) (omega arith))
    ∙ ap (stage t k) (mod_self (turn t))
