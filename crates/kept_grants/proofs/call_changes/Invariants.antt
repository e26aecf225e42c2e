-- `kept_grants::call_changes` meets its contract. The invariant says which calls were made.
use mathlib.Core.Path.{◌≡◌}
use Rattle.kept_grants.proofs.Kept.{after_to}
use Rattle.kept_grants.proofs.call_changes.Given as goal

abbrev pub invariant-loop-call : goal.invariant-loop-call
invariant-loop-call l = l.roll ≡ after_to l.calls l.call-index l.initial.roll
