-- `route_run::run` meets its contract.
use mathlib.Core.Path.{sym}
use native.Mathlib.Omega.{arith}
use Rattle.refusal.specs.Tries.{first, answered, written}
use Rattle.route_run.specs.Log.{run_holder, run_log}
use Rattle.route_run.proofs.Runs.{made-right, run_no_room, run_begins, run_fits, run_goes_on, run_ends}
use borrow.Author.Rules.{rules}
use Rattle.route_run.proofs.run.Goals as goal

pub returns-in_err-h : goal.returns-in_err-h
unfolding first answered written run_holder run_log
returns-in_err-h c = search rules

pub returns-then-log-calls : goal.returns-then-log-calls
returns-then-log-calls c = let right = made-right c.args.key.now (sym c.in_ok-h.ensures.outcome_value) in
    let r = run_no_room c.args.key.now c.args.calls.now c.args.log.now right (omega (arith, c.if-log-calls.true)) in
    record { outcome_value = r.0; holder_value = r.1.0; log_after = r.1.1 }

pub loop-i-init : goal.loop-i-init
loop-i-init c = let right = made-right c.args.key.now (sym c.in_ok-h.ensures.outcome_value) in
    run_begins c.args.key.now c.args.calls.now c.args.log.now _ (search rules) right
    (omega (arith, c.if-log-calls.false)) c.in_ok-h.ensures.holder_value

pub put_row-requires : goal.put_row-requires
put_row-requires c = let s = c.loop-i.invariant in
    (omega (arith, s.same, s.room), run_fits _ _ _ _ _ _ s c.loop-i-test.true _ c.call-r.ensures)

pub loop-i-preserved : goal.loop-i-preserved
loop-i-preserved c = run_goes_on _ _ _ _ _ _ c.loop-i.invariant c.loop-i-test.true _ c.call-r.ensures _ c.put_row.auto.log c.put_row.ensures

pub returns : goal.returns
returns c = let r = run_ends _ _ _ _ _ _ c.loop-i.invariant (omega arith) in
    record { outcome_value = r.0; holder_value = r.1.0; log_after = r.1.1 }
