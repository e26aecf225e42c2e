-- `schedule::stage_of_key` meets its contract.
use Rattle.std.proofs.Common.{ap₂, ◌++◌, length}
use Rattle.std.proofs.lemmas.List.{drop-replicate}
use Rattle.stages.specs.Columns.{padded}
use Rattle.schedule.proofs.stage_of_key.Goals as goal

pub returns : goal.returns
unfolding padded
returns c = ap₂ ◌++◌ c.copy_from_slice.ensures.after (drop-replicate (length c.args.key.now) 24 0)
