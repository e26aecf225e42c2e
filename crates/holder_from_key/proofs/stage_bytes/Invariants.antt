-- `holder_from_key::stage_bytes` meets its contract.
use mathlib.Core.Path.{◌≡◌}
use lib.ListN.{length}
use Rattle.stages.specs.Columns.{padded}
use Rattle.sizes.specs.Sizes.{t_of}
use Rattle.stages.specs.Stages.{stage}
use Rattle.holder_from_key.proofs.stage_bytes.Given as goal

abbrev pub invariant-loop-s : goal.invariant-loop-s
invariant-loop-s l = l.k ≡ padded (stage (t_of (length l.key)) l.key l.s)
