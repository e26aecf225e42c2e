-- `call_verdicts::call_check` meets its contract.
use Rattle.call_verdicts.proofs.Laws.{call_decided}
use Rattle.call_verdicts.proofs.call_check.Goals as goal

pub returns : goal.returns
returns c =
    let a = c.args in
    call_decided a.key.now (λ i. (c.type_inv.key i).fits) a.rounds a.grant.now (λ i. (c.type_inv.grant i).fits) a.size_block c.ranges.size_block.fits
    a.right a.roll.now c.gordzila_check.result c.gordzila_check.ensures
