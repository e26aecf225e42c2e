-- `constants::add_closing` meets its contract.
use mathlib.Core.Path.{◌≡◌}
use mathlib.Core.List.{◌++◌}
use Prim.Native.Nat.{◌*◌}
use lib.ListN.{take, drop}
use Rattle.stages.specs.Columns.{plus}
use Rattle.stages.specs.Stages.{closing_sum}
use Rattle.constants.proofs.add_closing.Given as goal

abbrev pub invariant-loop-i : goal.invariant-loop-i
invariant-loop-i l = l.k ≡ take l.i (plus (2 * l.t) l.initial.k (closing_sum l.t)) ++ drop l.i l.initial.k
