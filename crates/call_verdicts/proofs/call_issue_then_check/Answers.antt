-- `call_verdicts::call_issue_then_check` meets its contract.
use mathlib.Core.Path.{sym, ◌∙◌}
use Rattle.call_verdicts.proofs.Laws.{call_refused_first, call_room, call_then_checked}
use Rattle.verdicts.proofs.Laws.{twelve-taken}
use Rattle.call_verdicts.proofs.call_issue_then_check.Goals as goal

pub returns-then-number-ne0-clause-value : goal.returns-then-number-ne0-clause-value
returns-then-number-ne0-clause-value c =
    let a = c.args in
    call_refused_first a.key.now a.rounds a.roll.now a.contractor a.size_block a.right a.asked a.out.now _ c.gordzila_issue-number.ensures.value
    c.if-number-ne0.true

pub slice_bounds-gordzila_check-end : goal.slice_bounds-gordzila_check-end
slice_bounds-gordzila_check-end c =
    let a = c.args in
    let i = c.gordzila_issue-number.ensures in
    call_room a.key.now a.rounds a.roll.now a.contractor a.size_block a.right a.out.now (sym i.value ∙ c.if-number-ne0.false) _ i.out_after

pub slice_bounds-gordzila_check-end-2 : goal.slice_bounds-gordzila_check-end-2
slice_bounds-gordzila_check-end-2 c =
    let a = c.args in
    let i = c.gordzila_issue-number.ensures in
    twelve-taken i.out_after
    (call_room a.key.now a.rounds a.roll.now a.contractor a.size_block a.right a.out.now (sym i.value ∙ c.if-number-ne0.false) _ i.out_after)

pub returns-clause-value : goal.returns-clause-value
returns-clause-value c =
    let a = c.args in
    let i = c.gordzila_issue-number.ensures in
    call_then_checked a.key.now a.rounds a.roll.now a.contractor a.size_block a.right a.asked a.out.now (sym i.value ∙ c.if-number-ne0.false) _
    i.out_after (λ j. (c.type_inv.key j).fits) (λ j. (c.type_inv.roll j).fits) c.ranges.size_block.fits c.gordzila_check.result
    c.gordzila_check.ensures
