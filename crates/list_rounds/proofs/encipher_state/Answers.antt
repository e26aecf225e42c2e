-- `list_rounds::encipher_state` meets its contract.
use mathlib.Core.Path.{refl, sym, ap, ◌∙◌}
use Prim.Native.Nat.{ℕ, ◌+◌}
use native.Mathlib.Omega.{arith}
use native.Mathlib.Numerals.{add-one}
use lib.ListN.{length, get_or, drop}
use mathlib.Core.List.{[]}
use Rattle.layers.specs.State.{State}
use Rattle.layers.specs.Layers.{added}
use Rattle.rounds.specs.Rounds.{round, last_round, rounds}
use Rattle.block_bytes.specs.Blocks.{list_states}
use Rattle.block_bytes.proofs.Lists.{length_states, state_at, block_read}
use Rattle.list_rounds.proofs.Lists.{Whole, whole, rounds_done, round_on, round_last, whitened, round-made, last_made}
use Rattle.list_rounds.proofs.encipher_state.Goals.{then-r-n, else-r-n}
use Rattle.list_rounds.proofs.encipher_state.Goals as goal

pub loop-r-preserved : goal.loop-r-preserved
loop-r-preserved c = let list = c.args.list.now in
    let ks = list_states list in
    let r = c.loop-r.r in
    let state = c.loop-r.state in
    let w : Whole (length list) = whole (length list) c.requires in
    let read = c.state_of-k.ensures ∙ block_read list _ r (omega (arith, w.least)) refl in
    elim c.if-r-n.branch [
      | then-r-n b ↦
          ap (rounds (drop (r + 1) ks))
          (last_made state c.substitute-substituted.ensures c.permute-permuted.ensures _
          (c.add_key-next.ensures ∙ ap (added c.state_of-k.result) b.mixed-is)
          ∙ ap (λ (k : State). last_round k state) read)
          ∙ ap (λ (m : ℕ). rounds (drop m ks) (last_round (get_or ks r []) state)) (add-one r)
          ∙ sym (round_last ks r state (omega (arith, length_states list, b.if-r-n.true)))
          ∙ c.loop-r.invariant
      | else-r-n b ↦
          ap (rounds (drop (r + 1) ks))
          (round-made state c.substitute-substituted.ensures c.permute-permuted.ensures _ (b.mixed-is ∙ b.diffuse-mixed.ensures) c.add_key-next.ensures
          ∙ ap (λ (k : State). round k state) read)
          ∙ ap (λ (m : ℕ). rounds (drop m ks) (round (get_or ks r []) state)) (add-one r)
          ∙ sym (round_on ks r state (omega (arith, length_states list, c.loop-r-test.true, b.if-r-n.false)))
          ∙ c.loop-r.invariant
    ]

pub returns : goal.returns
returns c = let list = c.args.list.now in
    let a = c.args.a in
    let ks = list_states list in
    let w : Whole (length c.args.list.now) = whole (length c.args.list.now) c.requires in
    sym (rounds_done ks c.loop-r.r c.loop-r.state (omega (arith, length_states list, c.loop-r-test.false)))
    ∙ c.loop-r.invariant
    ∙ ap (rounds (drop 1 ks)) (c.add_key-state.ensures
    ∙ ap (λ (k : State). added k a) (c.state_of.ensures ∙ sym (state_at list 0 (omega (arith, w.least)))))
    ∙ sym (whitened ks a (omega (arith, length_states list, w.least)))
