-- `holder_from_key::stage_bytes` meets its contract.
use native.Mathlib.Omega.{arith}
use lib.ListN.{length}
use Rattle.stages.specs.Stages.{stage}
use Rattle.sizes.proofs.Keys.{a_key}
use Rattle.stages.proofs.Keys.{advanced}
use Rattle.holder_from_key.proofs.stage_bytes.Goals as goal

pub loop-s-init : goal.loop-s-init
unfolding stage
loop-s-init c = c.stage_of_key-k.ensures

pub next_stage-requires : goal.next_stage-requires
next_stage-requires c = (a_key (length c.args.key.now) c.requires.0).sized

pub loop-s-preserved : goal.loop-s-preserved
loop-s-preserved c = advanced c.args.key.now c.requires.0 c.loop-s.s c.loop-s.k _ (omega (arith, c.requires.1, c.loop-s-test.true)) c.loop-s.invariant
    c.next_stage.ensures
