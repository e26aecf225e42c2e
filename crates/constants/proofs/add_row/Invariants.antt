-- `constants::add_row` meets its contract. The invariant says what is done so far.
use mathlib.Core.Path.{◌≡◌}
use Prim.Native.Nat.{◌*◌}
use Rattle.stages.proofs.Written.{upto}
use Rattle.constants.proofs.Rows.{summed}
use Rattle.constants.proofs.add_row.Given as goal

abbrev pub invariant-loop-i : goal.invariant-loop-i
invariant-loop-i l = l.k ≡ upto (summed l.t l.s l.initial.k) (2 * l.i) l.initial.k
