-- `kept_grants::call_issue_change_check` meets its contract.
use mathlib.Core.Path.{sym, ◌∙◌}
use Rattle.call_verdicts.proofs.Laws.{call_room}
use Rattle.verdicts.proofs.Laws.{twelve-taken}
use Rattle.kept_grants.proofs.Kept.{kept_refused, kept_checked}
use Rattle.kept_grants.proofs.call_issue_change_check.Goals as goal

pub returns-then-number-ne0 : goal.returns-then-number-ne0
returns-then-number-ne0 c =
    let a = c.args in
    let i = c.gordzila_issue-number.ensures in
    let k =
    kept_refused a.key.now a.rounds a.roll.now a.contractor a.size_block a.right a.calls.now a.asked_block a.asked_right a.out.now _ i.value
    c.if-number-ne0.true in
    record { revoked = k.0; value = k.1.0; roll_after = k.1.1; out_after = i.out_after }

pub slice_bounds-gordzila_check-end : goal.slice_bounds-gordzila_check-end
slice_bounds-gordzila_check-end c =
    let a = c.args in
    let i = c.gordzila_issue-number.ensures in
    call_room a.key.now a.rounds a.roll.now a.contractor a.size_block a.right a.out.now (sym i.value ∙ c.if-number-ne0.false) _ i.out_after

pub slice_bounds-gordzila_check-end-2 : goal.slice_bounds-gordzila_check-end-2
slice_bounds-gordzila_check-end-2 c =
    let a = c.args in
    let i = c.gordzila_issue-number.ensures in
    twelve-taken i.out_after
    (call_room a.key.now a.rounds a.roll.now a.contractor a.size_block a.right a.out.now (sym i.value ∙ c.if-number-ne0.false) _ i.out_after)

pub returns : goal.returns
returns c =
    let a = c.args in
    let i = c.gordzila_issue-number.ensures in
    let k =
    kept_checked a.key.now a.rounds a.roll.now a.contractor a.size_block a.right a.calls.now a.asked_block a.asked_right a.out.now
    (sym i.value ∙ c.if-number-ne0.false) (λ j. (c.type_inv.key j).fits) (λ j. (c.slice_known-1.given j).fits) c.ranges.size_block.fits _ i.out_after _
    c.call_changes.ensures c.gordzila_check.result c.gordzila_check.ensures in
    record { revoked = k.0; value = k.1.0; roll_after = k.1.1; out_after = i.out_after }
