-- What is claimed of the steps around the turn. A term of each type stands in proofs/Claims.antt.
use Rattle.std.specs.Prelude.{◌≡◌, List, ℕ, ◌+◌, ◌*◌, ◌<◌}
use Rattle.sizes.specs.Sizes.{Sized, turn}
use Rattle.stages.specs.Columns.{IsStage}
use Rattle.stages.specs.Stages.{stage, stage_after, stage_before}
use Rattle.cycle.specs.Cycle.{following, preceding}

-- on every stage of 2t columns, whatever t and the number of the step, a step back undoes a step forward, and the other way round
unfoldable pub StepBackUndoes : Type 0
StepBackUndoes = (t s : ℕ) (k : List ℕ) → IsStage (2 * t) k → (stage_before t s (stage_after t s k) ≡ k) × (stage_after t s (stage_before t s k) ≡ k)

-- for t = 2, 3 and 4, from stage s of a key, a step forward gives the key's stage after s, and a step back the one before it, around the turn
unfoldable pub StepsFollowStages : Type 0
StepsFollowStages = (t : ℕ) → Sized t → (key : List ℕ) → IsStage (2 * t) key → (s : ℕ) → s < turn t
    → (stage_after t (s + 1) (stage t key s) ≡ stage t key (following t s))
    × (stage_before t (preceding t s + 1) (stage t key s) ≡ stage t key (preceding t s))
