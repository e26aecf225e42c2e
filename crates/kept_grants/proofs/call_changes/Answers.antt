-- `kept_grants::call_changes` meets its contract.
use mathlib.Core.Path.{refl, ◌∙◌}
use native.Mathlib.Omega.{arith}
use borrow.Author.Rules.{rules}
use Rattle.call_claims.specs.CallHistories.{bytes_after}
use Rattle.kept_grants.specs.Kept.{changes_from}
use Rattle.kept_grants.proofs.Kept.{after_to, after_next, after_all}
use Rattle.kept_grants.proofs.call_changes.Goals as goal

pub loop-call-init : goal.loop-call-init
unfolding after_to bytes_after changes_from
loop-call-init c = refl

pub loop-call-preserved : goal.loop-call-preserved
loop-call-preserved c = search (rules, after_next)

pub returns : goal.returns
returns c = let l = c.loop-call in l.invariant ∙ after_all c.args.calls.now l.call-index (omega arith) c.args.roll.now
