-- The stages of a key follow each other around the turn, and the steps undo each other on every stage.
use mathlib.Core.Path.{◌≡◌, refl, sym, ap, ◌∙◌}
use mathlib.Core.List.{List}
use Prim.Native.Nat.{ℕ, zero, suc, ◌+◌, ◌-◌, ◌*◌, ◌<◌}
use native.Mathlib.Omega.{arith}
use Rattle.sizes.specs.Sizes.{Sized, turn}
use Rattle.stages.specs.Columns.{IsStage, plus}
use Rattle.stages.specs.Stages.{linear_step, stage, step_constant, stage_after, stage_before}
use Rattle.stages.proofs.Steps.{plus-stage, inverse_step-stage, inverse_step_lem, step_inverse, plus_undone}
use Rattle.stages.proofs.Stages.{stage-stage}
use Rattle.stages.proofs.Constants.{step_constant_stage}
use Rattle.period.proofs.Every.{each_step}
use Rattle.cycle.specs.Cycle.{following, preceding}
use Rattle.cycle.proofs.Numbers.{following_on, following-is, preceding-below, on_back}

-- ---- a step forward and then one back, and the other way round, on any stage
before_is_stage : (t s : ℕ) {k : List ℕ} → IsStage (2 * t) k → IsStage (2 * t) (stage_before t s k)
unfolding stage_before
before_is_stage t s p = plus-stage (2 * t) (inverse_step-stage (2 * t) p) (step_constant_stage t s)

pub back_undoes : (t s : ℕ) {k : List ℕ} → IsStage (2 * t) k → stage_before t s (stage_after t s k) ≡ k
unfolding stage_after stage_before
back_undoes t s {k} p =
    let c = step_constant_stage t s in
    ap (λ (x : List ℕ). plus (2 * t) x (step_constant t s)) (inverse_step_lem (2 * t) (plus-stage (2 * t) p c)) ∙ plus_undone (2 * t) p c

pub forward_undoes : (t s : ℕ) {k : List ℕ} → IsStage (2 * t) k → stage_after t s (stage_before t s k) ≡ k
unfolding stage_after stage_before
forward_undoes t s p =
    ap (linear_step (2 * t)) (plus_undone (2 * t) (inverse_step-stage (2 * t) p) (step_constant_stage t s)) ∙ step_inverse (2 * t) p

-- ---- the stages of a key
-- a step from a stage of a key gives the key's next stage, and stage 0 after the last
pub after-key : (t : ℕ) → Sized t → {k : List ℕ} → IsStage (2 * t) k → (s : ℕ) → s < turn t
    → stage_after t (s + 1) (stage t k s) ≡ stage t k (following t s)
after-key t z {k} p s h =
    let e : s ≡ s + 1 - 1 = omega arith in
    ap (λ (m : ℕ). stage_after t (s + 1) (stage t k m)) e
    ∙ sym (each_step t z p (s + 1) (omega arith) (omega arith))
    ∙ ap (stage t k) (sym (following-is t s h))

-- and a step back gives the stage before it
pub before-key : (t : ℕ) → Sized t → {k : List ℕ} → IsStage (2 * t) k → (s : ℕ) → s < turn t
    → stage_before t (preceding t s + 1) (stage t k s) ≡ stage t k (preceding t s)
before-key t z {k} p s h =
    let b = preceding t s in
    ap (stage_before t (b + 1)) (ap (stage t k) (sym (on_back t s h)) ∙ sym (after-key t z p b (preceding-below t s h)))
    ∙ back_undoes t (b + 1) (stage-stage t p b)

-- every stage is one of a key's: stage s of the key that s steps back give
pub record Of (t s : ℕ) (k : List ℕ) : Type 0 where
  pub key : List ℕ
  pub is : IsStage (2 * t) key
  pub gives : stage t key s ≡ k

pub of_key : (t : ℕ) → Sized t → (s : ℕ) → s < turn t → {k : List ℕ} → IsStage (2 * t) k → Of t s k
unfolding stage
of_key t z zero h {k} p = record { key = k; is = p; gives = refl }
of_key t z (suc s) h {k} p =
    let o = of_key t z s (omega arith) (before_is_stage t (s + 1) p) in
    let on = after-key t z o.is s (omega arith) in
    record {
      key = o.key;
      is = o.is;
      gives = ap (stage t o.key) (sym (following_on t s h)) ∙ sym on ∙ ap (stage_after t (s + 1)) o.gives ∙ forward_undoes t (s + 1) p;
    }
