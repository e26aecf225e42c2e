-- `chain::last_of_chain` meets its contract. The invariant: the last block of what is left to chain.
use mathlib.Core.Path.{refl, sym, ap, ◌∙◌}
use mathlib.Core.List.{[]}
use Rattle.layers.specs.State.{State}
use Rattle.layers.specs.Layers.{added}
use Rattle.rounds.specs.Rounds.{enciphered}
use Rattle.block_bytes.specs.Blocks.{list_states}
use Rattle.block_bytes.proofs.Lists.{block_read}
use Rattle.chaining.specs.Chaining.{last_of, last_chained}
use Rattle.chain.proofs.Steps.{chained-next, chained_end}
use Rattle.chain.proofs.last_of_chain.Goals as goal

pub loop-i-init : goal.loop-i-init
unfolding last_chained
loop-i-init c = refl

pub loop-i-preserved : goal.loop-i-preserved
loop-i-preserved c = let e = c.next_block-next.ensures ∙ ap (λ (x : State). enciphered (list_states c.args.list.now) (added c.loop-i.last x))
    (block_read c.args.bytes.now _ c.loop-i.i c.loop-i-test.true refl) in
    c.loop-i.invariant ∙ (chained-next _ c.args.bytes.now c.loop-i.i c.loop-i.last c.next_block-next.result c.loop-i-test.true e).1

pub returns : goal.returns
unfolding last_of
returns c = sym (c.loop-i.invariant ∙ ap (last_of c.loop-i.last) (chained_end _ c.args.bytes.now c.loop-i.i c.loop-i.last [] c.loop-i-test.false))
