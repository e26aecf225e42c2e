-- `constants::add_row` meets its contract. The invariant says what is done so far.
use mathlib.Core.Path.{◌≡◌, ap, ap₂, ◌∙◌}
use mathlib.Core.List.{◌++◌}
use Prim.Native.Nat.{ℕ, ◌+◌, ◌*◌}
use native.Mathlib.Omega.{arith}
use lib.ListN.{drop}
use Rattle.sbox.specs.Sbox.{sbox}
use Rattle.stages.specs.Stages.{entry_of}
use Rattle.stages.proofs.Stages.{plus-constant}
use Rattle.stages.proofs.Written.{upto}
use Rattle.constants.proofs.Rows.{summed, entry_put}
use Rattle.constants.proofs.add_row.Goals as goal

pub loop-i-preserved : goal.loop-i-preserved
loop-i-preserved c = let t = c.args.t in
    let s = c.args.s in
    let k = c.args.k.now in
    let j = 2 * c.loop-i.i in
    let e : entry_of t s j + 1 ≡ entry_of t s (j + 1) = omega arith in
    entry_put t s k _ (j + 1) _ c.requires.0 c.told-k (omega arith) (omega arith)
    (entry_put t s k c.loop-i.k j _ c.requires.0 c.told-k (omega arith) (omega arith) c.loop-i.invariant _ c.substitute_byte.ensures) _
    (c.substitute_byte-in-loop-i.ensures ∙ ap sbox e)
    ∙ ap (λ (m : ℕ). upto (summed t s k) m k) (omega arith)

pub returns : goal.returns
returns c = let k = c.args.k.now in
    let l = c.loop-i in
    let e : 2 * l.i ≡ 2 * c.args.t = omega arith in
    let e' : 3 * (2 * c.args.t) ≡ 6 * c.args.t = omega arith in
    l.invariant ∙ ap (λ (j : ℕ). upto (summed c.args.t c.args.s k) j k) e ∙ ap₂ ◌++◌ (plus-constant c.args.t c.args.s k) (ap (λ (m : ℕ). drop m k) e')
