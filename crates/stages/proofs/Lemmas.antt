-- A term of each type of specs/Lemmas.antt.
use Rattle.stages.specs.Lemmas.{StepKeepsSums, StagesAreStages, BytesAreStages}
use Rattle.stages.proofs.Columns.{as_stage}
use Rattle.stages.proofs.Steps.{step_plus}
use Rattle.stages.proofs.Stages.{stage-stage}

pub step_keeps_sums : StepKeepsSums
unfolding StepKeepsSums
step_keeps_sums n a b ha hb = step_plus n ha hb

pub stages_are_stages : StagesAreStages
unfolding StagesAreStages
stages_are_stages t key h s = stage-stage t h s

pub bytes_are_stages : BytesAreStages
unfolding BytesAreStages
bytes_are_stages = as_stage
