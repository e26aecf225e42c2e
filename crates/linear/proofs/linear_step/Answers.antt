-- `linear::linear_step` meets its contract.
use mathlib.Core.Path.{◌≡◌, refl, sym, ap, ap₂, ◌∙◌}
use mathlib.Core.List.{◌++◌}
use Prim.Native.Nat.{ℕ, ◌+◌, ◌-◌, ◌*◌, ◌<◌}
use native.Mathlib.Omega.{arith}
use lib.ListN.{get_or, drop}
use Rattle.stages.specs.Columns.{cell, columns}
use Rattle.stages.specs.Stages.{previous}
use Rattle.stages.proofs.Places.{previous_around, previous-next}
use Rattle.stages.proofs.Written.{stepped, upto, read_unwritten, read-after, column-stepped, step_once}
use Rattle.linear.proofs.linear_step.Goals as goal

pub loop-j-init : goal.loop-j-init
unfolding columns
loop-j-init c = let p = previous_around (2 * c.args.t) 0 (omega (arith, c.requires.least)) (omega arith) in
    let e : 6 * c.args.t - 1 ≡ 2 + 3 * previous (2 * c.args.t) 0 = omega arith in
    ((refl, ap (λ (p : ℕ). get_or c.args.k.now p 0) e), refl)

pub loop-j-preserved : goal.loop-j-preserved
loop-j-preserved c = let l = c.loop-j in
    let inv = l.invariant in
    let k = c.args.k.now in
    let n = 2 * c.args.t in
    let h : l.j < n = omega arith in (
      (inv.0.0, read_unwritten n k l.k l.j h inv.1 2 _ (omega arith) ∙ ap (cell k 2) (previous-next n l.j h)),
      column-stepped n k l.k l.j h inv.1 _ c.row_one_after-y.result l.before c.column_term-m.result
          (omega (arith, c.requires.most)) (read_unwritten n k l.k l.j h inv.1 0 _ (omega arith))
          (c.row_one_after-y.ensures ∙ read-after n k l.k l.j h inv.1 _ inv.0.0) inv.0.1
          c.column_term-m.ensures,
    )

pub returns : goal.returns
returns c = let k = c.args.k.now in
    let l = c.loop-j in
    let e : l.j ≡ 2 * c.args.t = omega arith in
    let e' : 3 * (2 * c.args.t) ≡ 6 * c.args.t = omega arith in
    l.invariant.1 ∙ ap (λ (j : ℕ). upto (stepped (2 * c.args.t) k) j k) e ∙ ap₂ ◌++◌ (sym (step_once (2 * c.args.t) k)) (ap (λ (m : ℕ). drop m k) e')
