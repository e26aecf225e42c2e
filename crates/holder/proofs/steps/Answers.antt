-- `holder::steps` meets its contract. The invariant says what is done so far.
use Rattle.holder.proofs.Whole.{step_more}
use Rattle.holder.proofs.steps.Goals as goal

pub loop-preserved : goal.loop-preserved
loop-preserved c = step_more c.args.way c.args.h _ _ c.loop.counter c.loop.invariant c.step_bytes-number.ensures
