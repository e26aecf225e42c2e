-- `page_steps::put_payload` meets its contract.
use borrow.Author.Rules.{rules}
use Rattle.page_steps.proofs.Placed.{placed_next}
use Rattle.page_steps.proofs.put_payload.Goals as goal

pub loop-i-preserved : goal.loop-i-preserved
loop-i-preserved c =
    let l = c.loop-i in
    (search rules, placed_next 12 l.i c.args.payload.now c.args.out.now c.loop-i-test.true c.requires l.out l.invariant.1)
