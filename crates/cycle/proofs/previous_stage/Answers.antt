-- `cycle::previous_stage` meets its contract.
use mathlib.Core.Path.{ap, ◌∙◌}
use mathlib.Core.List.{List, ◌++◌}
use Prim.Native.Nat.{ℕ, ◌*◌}
use lib.ListN.{drop}
use Rattle.stages.specs.Columns.{plus}
use Rattle.stages.specs.Stages.{inverse_step, step_constant, stage_before}
use Rattle.stages.proofs.Padded.{plus_kept}
use Rattle.inverse.proofs.Columns.{length-inverse}
use Rattle.cycle.proofs.previous_stage.Goals as goal

pub returns : goal.returns
unfolding stage_before
returns c = let k = c.args.k.now in
    let x = step_constant c.args.t c.args.s in
    c.add_constant.ensures
    ∙ ap (λ (y : List ℕ). plus (2 * c.args.t) y x ++ drop (6 * c.args.t) y) c.inverse_step.ensures
    ∙ plus_kept c.args.t (inverse_step (2 * c.args.t) k) (drop (6 * c.args.t) k) x (length-inverse (2 * c.args.t) k)
