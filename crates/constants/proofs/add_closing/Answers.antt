-- `constants::add_closing` meets its contract.
use mathlib.Core.Path.{◌≡◌, refl, ap, ap₂, ◌∙◌}
use mathlib.Core.List.{◌++◌}
use Prim.Native.Nat.{ℕ, ◌*◌, ◌<◌}
use native.Mathlib.Omega.{arith}
use lib.ListN.{length, take, drop}
use lib.Seq.{take_all}
use Rattle.field.specs.Field.{◌⊕◌}
use Rattle.stages.specs.Columns.{plus}
use Rattle.stages.specs.Stages.{closing_sum}
use Rattle.stages.proofs.Padded.{stage-length, length-plus}
use Rattle.stages.proofs.Stages.{closing_stage}
use Rattle.constants.proofs.Sums.{sum_byte, byte_unwritten, byte_put}
use Rattle.constants.proofs.add_closing.Goals as goal

pub loop-i-preserved : goal.loop-i-preserved
loop-i-preserved c = let t = c.args.t in
    let k = c.args.k.now in
    let l = c.loop-i in
    let p = plus (2 * t) k (closing_sum t) in
    let hp : l.i < length p = omega (arith, length-plus (2 * t) k (closing_sum t)) in
    let hk : l.i < length k = omega (arith, c.requires.most) in
    let e = sum_byte t k (closing_sum t) _ l.i c.closing_sum-sum.ensures (stage-length (2 * t) (closing_stage t)) (omega arith) in
    let x = ap₂ ◌⊕◌ (byte_unwritten p k l.k l.i hp hk l.invariant) refl in
    byte_put p k l.k l.i hp hk l.invariant _ (x ∙ e)

pub returns : goal.returns
returns c = let l = c.loop-i in
    let k = c.args.k.now in
    let p = plus (2 * c.args.t) k (closing_sum c.args.t) in
    let e : l.i ≡ 6 * c.args.t = omega arith in
    l.invariant
    ∙ ap (λ (i : ℕ). take i p ++ drop i k) e
    ∙ ap₂ ◌++◌ (take_all (6 * c.args.t) p (omega (arith, length-plus (2 * c.args.t) k (closing_sum c.args.t)))) refl
