-- `queue::answer_all` meets its contract. The invariant says what is done so far.
use Rattle.queue_parts.specs.ForProver.{number_over}
use Rattle.queue_parts.proofs.Answers.{Answering}
use Rattle.queue.proofs.answer_all.Given as goal

abbrev pub invariant-loop-i : goal.invariant-loop-i
invariant-loop-i g l = Answering (number_over l.list (g.R.AsRoll.roll l.roll) l.size_block l.right) l.grants l.initial.answers l.answers l.i
