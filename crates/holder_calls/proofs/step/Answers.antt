-- `holder_calls::step` meets its contract.
use Rattle.holder_calls.proofs.Calls.{step_writes}
use Rattle.holder_calls.proofs.step.Goals as goal

pub answer-requires : goal.answer-requires
answer-requires c = let s = c.step_either-stepped.ensures in
    step_writes c.args.lent.now _ c.read.ensures c.args.way _ s.outcome_value s.holder_value
