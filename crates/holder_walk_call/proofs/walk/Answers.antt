-- `holder_walk_call::walk` meets its contract.
use native.Mathlib.Omega.{arith}
use Rattle.refusal.specs.Tries.{first, written, answered}
use Rattle.holder_walk.proofs.Walks.{walk-few}
use Rattle.holder_walk_call.specs.WalkCall.{walk_call_code, walk_call_holder}
use Rattle.holder_walk_call.proofs.Walks.{walk_writes}
use borrow.Author.Rules.{rules}
use Rattle.holder_walk_call.proofs.walk.Goals as goal

pub write-requires : goal.write-requires
write-requires c = walk_writes c.args.lent.now _ c.read.ensures c.args.d _ c.in-Ok.ensures.outcome_value c.in-Ok.ensures.holder_value

pub walk_code-requires : goal.walk_code-requires
walk_code-requires c = omega (arith, c.in-Ok.ensures.steps_value, walk-few c.read.result c.args.d)

pub returns-in-Ok : goal.returns-in-Ok
unfolding first written answered walk_call_code walk_call_holder
returns-in-Ok c = search rules

pub returns-in-Err : goal.returns-in-Err
unfolding first written answered walk_call_code walk_call_holder
returns-in-Err c = search rules
