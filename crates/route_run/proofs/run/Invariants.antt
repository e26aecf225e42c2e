-- `route_run::run` meets its contract.
use Rattle.route_run.proofs.Runs.{Running}
use Rattle.route_run.proofs.run.Given as goal

abbrev pub invariant-loop-i : goal.invariant-loop-i
invariant-loop-i l = Running l.key l.calls l.initial.log l.log l.h l.i
