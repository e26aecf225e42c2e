-- `filling::put_subkey` meets its contract.
use mathlib.Core.Path.{ap, ◌∙◌}
use mathlib.Core.Bool.{cond, ◌&&◌}
use Prim.Native.Nat.{◌-◌, ◌*◌}
use native.Mathlib.Omega.{arith}
use lib.Dec.{ltb}
use Rattle.layers.specs.State.{State}
use Rattle.layers.specs.Layers.{diffused}
use Rattle.block_bytes.specs.Blocks.{bytes_of}
use Rattle.block_bytes.proofs.Put.{overlaid, part_written}
use Rattle.filling.proofs.put_subkey.Goals as goal

pub returns-in-Enciphering-clause-front : goal.returns-in-Enciphering-clause-front
returns-in-Enciphering-clause-front c = λ d.
    part_written (12 * c.args.s) c.args.out.now (bytes_of c.subkey-subkey.result) _ (omega arith) c.write_state.ensures
    ∙ ap (λ (k : State). overlaid (12 * c.args.s) (bytes_of k) c.args.out.now) c.subkey-subkey.ensures

pub returns-in-Deciphering-clause-back : goal.returns-in-Deciphering-clause-back
returns-in-Deciphering-clause-back c = λ d. let at = 12 * (c.args.rounds - c.args.s) in
    part_written at c.args.out.now (bytes_of c.turn_subkey-turned.result) _ (omega arith) c.write_state-in-Deciphering.ensures
    ∙ ap (λ (k : State). overlaid at (bytes_of k) c.args.out.now)
    (c.turn_subkey-turned.ensures ∙ ap (λ (k : State). cond (ltb 0 c.args.s && ltb c.args.s c.args.rounds) (diffused k) k) c.subkey-subkey.ensures)
