-- `words::double_bytes` meets its contract.
use mathlib.Core.Path.{ap, ◌∙◌}
use Prim.Native.Nat.{ℕ, ◌-◌, ◌/◌, ◌^◌, ◌<◌}
use lib.Bits.{bit_and, bit_xor}
use borrow.Author.Rules.{rules}
use Rattle.words.specs.Words.{leaving}
use Rattle.words.proofs.OneByte.{four_masks}
use Rattle.words.proofs.Doubling.{doubles, kept}
use Rattle.words.proofs.double_bytes.Statement.{statement}
use Rattle.words.proofs.double_bytes.Tie as tie

returns : tie.Need-returns
returns c =
    let w = c.args.w in
    let h : w < 2 ^ 32 = search rules in
    ap (λ (n : ℕ). bit_xor n (bit_and (leaving w - leaving w / 2 ^ 7) four_masks)) (kept w h) ∙ doubles w h

pub double_bytes_spec : {M : Type 1} → statement M
double_bytes_spec = tie.close (tie.spec (λ c. search rules) returns)
