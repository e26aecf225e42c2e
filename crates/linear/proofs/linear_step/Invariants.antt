-- `linear::linear_step` meets its contract.
use mathlib.Core.Path.{◌≡◌}
use Prim.Native.Nat.{◌*◌}
use Rattle.stages.specs.Columns.{cell}
use Rattle.stages.specs.Stages.{previous}
use Rattle.stages.proofs.Written.{stepped, upto}
use Rattle.linear.proofs.linear_step.Given as goal

abbrev pub invariant-loop-j : goal.invariant-loop-j
invariant-loop-j l = ((l.first ≡ cell l.initial.k 1 0) × (l.before ≡ cell l.initial.k 2 (previous (2 * l.t) l.j)))
    × (l.k ≡ upto (stepped (2 * l.t) l.initial.k) l.j l.initial.k)
