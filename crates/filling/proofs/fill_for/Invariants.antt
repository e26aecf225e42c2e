-- `filling::fill_for` meets its contract. The invariant says what is done so far.
use Rattle.filling.proofs.Filling.{Filling}
use Rattle.filling.proofs.fill_for.Given as goal

abbrev pub invariant-loop-before : goal.invariant-loop-before
invariant-loop-before l = Filling l.direction l.key l.rounds l.fn.out l.out l.k l.before
