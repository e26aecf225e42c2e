-- `checking::check_on` meets its contract.
use Rattle.checking.proofs.Parts.{refused, judged}
use borrow.Author.Rules.{rules}
use Rattle.checking.proofs.check_on.Goals as goal

pub returns-in_err-try_input : goal.returns-in_err-try_input
returns-in_err-try_input g c =
    let a = c.args in
    let t = refused (g.R.AsRoll.whole a.roll.now) a.key.now a.rounds (g.R.AsRoll.roll a.roll.now) a.grant.now a.size_block a.right
    c.from_residual.result c.in_err-try_input.field-0.0 (search rules) (search rules) in
    record { result_value = t.0; contractor_value = t.1.0; right_value = t.1.1 }

pub returns : goal.returns
returns g c =
    let a = c.args in
    let j = c.judge.ensures in
    let t = judged (g.R.AsRoll.whole a.roll.now) a.key.now a.rounds (g.R.AsRoll.roll a.roll.now) a.grant.now a.size_block a.right (search rules)
    _ c.open-plain.ensures _ c.contractor_in.ensures _ c.entry-entry.ensures _ _ _ j.result_value j.contractor_value j.right_value in
    record { result_value = t.0; contractor_value = t.1.0; right_value = t.1.1 }
