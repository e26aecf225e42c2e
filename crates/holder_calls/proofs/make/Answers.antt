-- `holder_calls::make` meets its contract.
use borrow.Author.Rules.{rules}
use Rattle.holder_calls.proofs.Calls.{make_writes}
use Rattle.holder_calls.proofs.make.Goals as goal

pub write-requires : goal.write-requires
write-requires c = (make_writes c.args.key.now _ c.in_ok-made.ensures.outcome_value c.in_ok-made.ensures.holder_value, search rules)
