-- `inverse::inverse_step` meets its contract.
use mathlib.Core.Path.{◌≡◌}
use Prim.Native.Nat.{◌*◌, ◌%◌}
use Rattle.stages.specs.Stages.{previous}
use Rattle.stages.proofs.Written.{upto}
use Rattle.inverse.proofs.Columns.{ruled_back, stepped_back}
use Rattle.inverse.proofs.inverse_step.Given as goal

abbrev pub invariant-loop-j : goal.invariant-loop-j
invariant-loop-j l = ((l.first ≡ ruled_back l.initial.k 0) × ((l.before ≡ ruled_back l.initial.k (previous (2 * l.t) l.j))
    × (l.here ≡ ruled_back l.initial.k (l.j % (2 * l.t))))) × (l.k ≡ upto (stepped_back (2 * l.t) l.initial.k) l.j l.initial.k)
