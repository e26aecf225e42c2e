-- What is claimed of the linear step over a turn and of every step of it, for t = 2, 3 and 4: document 01, "Key stages"; paper 000, section 3.7. A term
-- of each type stands in proofs/Claims.antt.
use Rattle.std.specs.Prelude.{◌≡◌, ◌≢◌, List, ℕ, ◌-◌, ◌*◌, ◌%◌, ◌≤◌, ◌<◌}
use Rattle.stages.specs.Columns.{IsStage, plus}
use Rattle.sizes.specs.Sizes.{Sized, turn}
use Rattle.stages.specs.Stages.{linear_step, stage, closing_sum, step_constant}
use Rattle.basics.specs.Repeated.{repeated}

-- the linear step alone has period exactly 6t: its 6t-th power is the identity on every stage, and no smaller positive power is
pub record Period (t : ℕ) : Type 0 where
  pub comes_home : (k : List ℕ) → IsStage (2 * t) k → repeated (6 * t) (linear_step (2 * t)) k ≡ k
  pub not_before : (m : ℕ) → 0 < m → m < 6 * t → (k : List ℕ) × (IsStage (2 * t) k × (repeated m (linear_step (2 * t)) k ≢ k))

unfoldable pub PeriodExactly : Type 0
PeriodExactly = (t : ℕ) → Sized t → Period t

-- for every key and each s from 1 to 6t, the stage at s modulo 6t is the linear step of (stage s - 1 plus the constant of step s)
unfoldable pub EveryStep : Type 0
EveryStep = (t : ℕ) → Sized t → (key : List ℕ) → IsStage (2 * t) key → (s : ℕ) → 0 < s → s ≤ turn t
    → stage t key (s % turn t) ≡ linear_step (2 * t) (plus (2 * t) (stage t key (s - 1)) (step_constant t s))

-- stage 0 again is the linear step of (stage 6t - 1 plus the closing sum), for every key
unfoldable pub StageZeroAgain : Type 0
StageZeroAgain = (t : ℕ) → Sized t → (key : List ℕ) → IsStage (2 * t) key
    → linear_step (2 * t) (plus (2 * t) (stage t key (6 * t - 1)) (closing_sum t)) ≡ key
