-- `chain::chain` meets its contract. The invariant: the blocks that are chained so far, and what is left to chain.
use mathlib.Core.Path.{refl, ap, ◌∙◌}
use mathlib.Core.List.{[]}
use native.Mathlib.Omega.{arith}
use Rattle.layers.specs.State.{State}
use Rattle.layers.specs.Layers.{added}
use Rattle.rounds.specs.Rounds.{enciphered}
use Rattle.block_bytes.specs.Blocks.{bytes_of, list_states, list_bytes}
use Rattle.block_bytes.proofs.Blockwise.{blocks_begin, blocks_unwritten, blocks_go_on, blocks_all}
use Rattle.block_bytes.proofs.Lists.{block_read}
use Rattle.chaining.specs.Chaining.{chained_bytes}
use Rattle.chain.proofs.Steps.{chained-next, chained_end}
use Rattle.chain.proofs.chain.Goals as goal

pub loop-i-init : goal.loop-i-init
unfolding chained_bytes
loop-i-init c = blocks_begin _ _

pub loop-i-preserved : goal.loop-i-preserved
loop-i-preserved c = let b = c.loop-i.invariant in
    let e = c.next_block-next.ensures ∙ ap (λ (x : State). enciphered (list_states c.args.list.now) (added c.loop-i.previous x))
    (block_read c.args.bytes.now _ c.loop-i.i (omega (arith, b.same)) (blocks_unwritten b)) in
    blocks_go_on b (bytes_of c.next_block-next.result) _ _ refl
    (chained-next _ c.args.bytes.now c.loop-i.i c.loop-i.previous c.next_block-next.result (omega (arith, b.same)) e).0
    (omega (arith, b.same)) c.write_state.ensures

pub returns : goal.returns
unfolding list_bytes
returns c = let b = c.loop-i.invariant in
    let bytes = c.args.bytes.now in
    let e = ap list_bytes (chained_end (enciphered (list_states c.args.list.now)) bytes c.loop-i.i c.loop-i.previous [] (omega (arith, b.same))) in
    blocks_all b (omega (arith, b.same, b.most, c.requires.blocks)) e
