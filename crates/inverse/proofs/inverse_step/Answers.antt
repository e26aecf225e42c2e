-- `inverse::inverse_step` meets its contract.
use mathlib.Core.Path.{refl, sym, ap, ◌∙◌}
use Prim.Native.Nat.{◌*◌, ◌<◌}
use native.Mathlib.Nat.{mod-eq_of_lt}
use native.Mathlib.Omega.{arith}
use Rattle.stages.specs.Columns.{columns}
use Rattle.stages.proofs.Places.{previous_around, previous-next}
use Rattle.inverse.proofs.Columns.{ruled_back, read-after, column-back, all_back}
use Rattle.inverse.proofs.inverse_step.Goals as goal

pub loop-j-init : goal.loop-j-init
unfolding columns
loop-j-init c = let k = c.args.k.now in
    let f = c.inverse_column-first.ensures in
    let z : 0 < 2 * c.args.t = omega (arith, c.requires.least) in
    let b = c.inverse_column-before.ensures ∙ ap (ruled_back k) (previous_around (2 * c.args.t) 0 z (omega arith)) in
    ((f, (b, f ∙ ap (ruled_back k) (sym (mod-eq_of_lt z)))), refl)

pub loop-j-preserved : goal.loop-j-preserved
loop-j-preserved c = let l = c.loop-j in
    let n = 2 * c.args.t in
    let k = c.args.k.now in
    let inv = l.invariant.0 in
    let h : l.j < n = omega arith in
    let after = c.column_after-after.ensures ∙ read-after n k l.k l.j h l.invariant.1 _ inv.0 in (
      (inv.0, (inv.1.1 ∙ ap (ruled_back k) (mod-eq_of_lt h ∙ previous-next n l.j h), after)),
      column-back n k l.k l.j h l.invariant.1 l.before l.here _ (omega (arith, c.requires.most)) inv.1.0 inv.1.1 after,
    )

pub returns : goal.returns
returns c = all_back c.args.t c.loop-j.j c.args.k.now c.loop-j.k c.loop-j.invariant.1 (omega arith)
