-- `queue::answer_all` meets its contract.
use borrow.Author.Rules.{rules}
use Rattle.queue_parts.proofs.Answers.{begins, goes_on}
use Rattle.queue.proofs.answer_all.Goals as goal

pub loop-i-init : goal.loop-i-init
loop-i-init g c = begins

pub loop-i-preserved : goal.loop-i-preserved
loop-i-preserved g c = search (rules, goes_on)
