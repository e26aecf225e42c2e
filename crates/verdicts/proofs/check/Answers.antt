-- `verdicts::check` meets its contract.
use Rattle.verdicts.proofs.Laws.{decided}
use Rattle.verdicts.proofs.check.Goals as goal

pub returns : goal.returns
returns c =
    let a = c.args in
    let e = c.check.ensures in
    decided a.key.now (λ j. (c.type_inv.key j).fits) a.rounds a.grant.now (λ j. (c.type_inv.grant j).fits) a.size_block c.ranges.size_block.fits a.right
    a.roll c.check.result (e.result_value, (e.contractor_value, e.right_value))
