-- `unchain::unchain` meets its contract. The invariant: the blocks that are undone so far, and what is left to undo.
use mathlib.Core.Path.{◌≡◌, refl, ap, ◌∙◌}
use Prim.Native.Nat.{◌*◌}
use native.Mathlib.Omega.{arith}
use lib.ListN.{length}
use Rattle.rounds.specs.Rounds.{enciphered}
use Rattle.block_bytes.specs.Blocks.{bytes_of, list_states, list_bytes}
use Rattle.block_bytes.proofs.Lists.{block_read}
use Rattle.block_bytes.proofs.Blockwise.{blocks_begin, blocks_go_on, blocks_end}
use Rattle.chaining.specs.Chaining.{unchained_bytes}
use Rattle.unchain.proofs.Steps.{undone_next, undone_end}
use Rattle.unchain.proofs.unchain.Goals as goal

pub loop-i-init : goal.loop-i-init
unfolding unchained_bytes
loop-i-init c = (blocks_begin _ _, omega arith)

pub loop-i-preserved : goal.loop-i-preserved
loop-i-preserved c = let b = c.loop-i.invariant.0 in
    let bytes = c.args.bytes.now in
    let e = undone_next _ bytes c.loop-i.i c.loop-i.previous c.state_of-block.result c.plain_block-plain.result c.loop-i-test.true
    (c.state_of-block.ensures ∙ block_read bytes _ c.loop-i.i c.loop-i-test.true refl) c.plain_block-plain.ensures in
    (blocks_go_on b (bytes_of c.plain_block-plain.result) _ _ refl e (omega (arith, c.requires.fits)) c.write_state.ensures, omega arith)

pub returns : goal.returns
unfolding list_bytes
returns c = let bytes = c.args.bytes.now in
    let g = enciphered (list_states c.args.list.now) in
    let n : 12 * c.loop-i.i ≡ length bytes = omega (arith, c.loop-i.invariant.1, c.requires.blocks) in
    blocks_end c.loop-i.invariant.0 (length bytes) n (ap list_bytes (undone_end g bytes c.loop-i.i c.loop-i.previous c.loop-i-test.false))
