-- `unchain::is_zero_from` meets its contract. The invariant: whether what was undone so far is zero, and what is left.
use mathlib.Core.Path.{refl, sym, ap, ◌∙◌}
use mathlib.Core.Bool.{◌&&◌}
use mathlib.Core.List.{List}
use Prim.Native.Nat.{ℕ, ◌+◌, ◌/◌, ◌%◌}
use native.Mathlib.Omega.{arith}
use lib.ListN.{drop}
use lib.Seq.{drop-nil}
use Rattle.basics.proofs.Tests.{and_true}
use Rattle.layers.specs.State.{State}
use Rattle.rounds.specs.Rounds.{enciphered}
use Rattle.block_bytes.specs.Blocks.{list_states, list_bytes}
use Rattle.block_bytes.proofs.Lists.{block_read}
use Rattle.byte_slices.specs.Slices.{all_zero}
use Rattle.unchain.proofs.Steps.{undone_next, undone_end, zero_on, from_place}
use Rattle.unchain.proofs.is_zero_from.Invariants.{rest}
use Rattle.unchain.proofs.is_zero_from.Goals as goal

pub loop-i-preserved : goal.loop-i-preserved
loop-i-preserved c = let inv = c.loop-i.invariant in
    let e = undone_next _ c.args.bytes.now c.loop-i.i c.loop-i.previous c.state_of-block.result c.plain_block-plain.result
    c.loop-i-test.true (c.state_of-block.ensures ∙ block_read c.args.bytes.now _ c.loop-i.i c.loop-i-test.true refl)
    c.plain_block-plain.ensures in
    let left = rest c.args.list.now c.args.bytes.now (c.loop-i.i + 1) 0 c.state_of-block.result in
    let z = zero_on _ c.args.bytes.now c.loop-i.i c.loop-i.previous c.loop-i.skip c.loop-i.zero c.plain_block-plain.result left _
    inv.1 e c.zero_from-zero.ensures in
    (inv.0 ∙ z, omega arith)

pub returns : goal.returns
unfolding list_bytes all_zero
returns c = let bytes = c.args.bytes.now in
    let g = enciphered (list_states c.args.list.now) in
    let e = ap list_bytes (undone_end g bytes c.loop-i.i c.loop-i.previous c.loop-i-test.false) in
    sym (
    ap all_zero (from_place g c.args.start bytes c.args.n c.requires.place)
    ∙ ap (λ (x : State). all_zero (rest c.args.list.now bytes (c.args.n / 12) (c.args.n % 12) x)) (sym c.block_before-previous.ensures)
    ∙ c.loop-i.invariant.0
    ∙ ap (λ (x : List ℕ). c.loop-i.zero && all_zero (drop c.loop-i.skip x)) e
    ∙ ap (λ (x : List ℕ). c.loop-i.zero && all_zero x) (drop-nil c.loop-i.skip)
    ∙ and_true c.loop-i.zero
    )
