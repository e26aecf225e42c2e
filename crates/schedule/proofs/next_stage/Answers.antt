-- `schedule::next_stage` meets its contract.
use mathlib.Core.Path.{ap, ◌∙◌}
use mathlib.Core.List.{List, ◌++◌}
use Prim.Native.Nat.{ℕ, ◌*◌}
use lib.ListN.{drop}
use Rattle.stages.specs.Columns.{plus}
use Rattle.stages.specs.Stages.{linear_step, step_constant, stage_after}
use Rattle.stages.proofs.Padded.{length-plus, step_kept}
use Rattle.schedule.proofs.next_stage.Goals as goal

pub returns : goal.returns
unfolding stage_after
returns c = let k = c.args.k.now in
    let x = step_constant c.args.t c.args.s in
    c.linear_step.ensures
    ∙ ap (λ (y : List ℕ). linear_step (2 * c.args.t) y ++ drop (6 * c.args.t) y) c.add_constant.ensures
    ∙ step_kept c.args.t (plus (2 * c.args.t) k x) (drop (6 * c.args.t) k) (length-plus (2 * c.args.t) k x)
