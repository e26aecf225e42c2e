-- Laws of the key schedule that only serve proofs: no demand asks for them. A term of each type stands in proofs/Lemmas.antt.
use Rattle.std.specs.Prelude.{◌≡◌, List, ℕ, ◌*◌, ◌<◌, length, get_or}
use Rattle.stages.specs.Columns.{IsStage, plus}
use Rattle.stages.specs.Stages.{linear_step, stage}

-- the linear step keeps sums
unfoldable pub StepKeepsSums : Type 0
StepKeepsSums = (n : ℕ) (a b : List ℕ) → IsStage n a → IsStage n b → linear_step n (plus n a b) ≡ plus n (linear_step n a) (linear_step n b)

-- every stage of a key is a stage
unfoldable pub StagesAreStages : Type 0
StagesAreStages = (t : ℕ) (key : List ℕ) → IsStage (2 * t) key → (s : ℕ) → IsStage (2 * t) (stage t key s)

-- every list of 3n bytes is a stage of n columns
unfoldable pub BytesAreStages : Type 0
BytesAreStages = (n : ℕ) (k : List ℕ) → length k ≡ 3 * n → ((p : ℕ) → get_or k p 0 < 256) → IsStage n k
