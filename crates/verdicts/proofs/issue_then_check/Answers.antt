-- `verdicts::issue_then_check` meets its contract.
use Rattle.verdicts.proofs.Laws.{room, twelve-taken, refused-first, then_checked}
use borrow.Author.Rules.{rules}
use Rattle.verdicts.proofs.issue_then_check.Goals as goal

pub returns-in_err-issue : goal.returns-in_err-issue
returns-in_err-issue c =
    let a = c.args in
    let t = refused-first a.key.now a.rounds a.roll a.contractor a.size_block a.right a.out.now a.asked c.from_residual.result
    c.in_err-issue.field-0.0 (search rules) (search rules) in
    record { result_value = t.0; contractor_value = t.1.0; right_value = t.1.1; out_after = search rules }

pub slice_bounds-check-end : goal.slice_bounds-check-end
slice_bounds-check-end c =
    let a = c.args in
    room a.key.now a.rounds a.roll a.contractor a.size_block a.right a.out.now (search rules) _ c.issue.ensures.out_after

pub slice_bounds-check-end-2 : goal.slice_bounds-check-end-2
slice_bounds-check-end-2 c =
    let a = c.args in
    let w = c.issue.ensures.out_after in
    twelve-taken w (room a.key.now a.rounds a.roll a.contractor a.size_block a.right a.out.now (search rules) _ w)

pub returns : goal.returns
returns c =
    let a = c.args in
    let e = c.check.ensures in
    let t = then_checked a.key.now a.rounds a.roll a.contractor a.size_block a.right a.out.now a.asked (λ j. (c.type_inv.key j).fits)
    c.ranges.size_block.fits (search rules) _ c.issue.ensures.out_after c.check.result (e.result_value, (e.contractor_value, e.right_value)) in
    record { result_value = t.0; contractor_value = t.1.0; right_value = t.1.1; out_after = search rules }
