-- `filling::fill_for` meets its contract. The invariant says what is done so far.
use native.Mathlib.Omega.{arith}
use Rattle.sizes.proofs.Keys.{a_key}
use Rattle.filling.proofs.Filling.{begins, goes_on, all_put}
use Rattle.filling.proofs.fill_for.Goals as goal

pub loop-before-init : goal.loop-before-init
loop-before-init c = begins c.requires _ _ _ c.put_subkey.auto.out c.stage_of_key-k.ensures c.put_subkey.ensures.front c.put_subkey.ensures.back

pub next_stage-requires : goal.next_stage-requires
next_stage-requires c = (a_key _ c.requires.key).sized

pub loop-before-preserved : goal.loop-before-preserved
loop-before-preserved c =
    let p = c.put_subkey-in-loop-before in
    goes_on c.requires c.loop-before.invariant c.loop-before-test.true c.requires.fits _ _ c.next_stage.ensures p.auto.out p.ensures.front p.ensures.back

pub returns : goal.returns
returns c = all_put _ _ _ _ _ _ (omega arith) c.loop-before.invariant.is
