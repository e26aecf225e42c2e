-- A term of each type of specs/Claims.antt.
use Rattle.field.specs.Field.{◌⊕◌, cube_root}
use Rattle.stages.specs.Claims.{ColumnRuleUndone, StepsUndo}
use Rattle.stages.proofs.ColumnRule.{undoes_c, undoes_inverse, rule_undone}
use Rattle.stages.proofs.Steps.{inverse_step_lem, step_inverse}

pub column_rule_undone : ColumnRuleUndone
unfolding ColumnRuleUndone
column_rule_undone n k h = (rule_undone cube_root (cube_root ⊕ 1) n undoes_c h, rule_undone (cube_root ⊕ 1) cube_root n undoes_inverse h)

pub steps_undo : StepsUndo
unfolding StepsUndo
steps_undo n k h = (inverse_step_lem n h, step_inverse n h)
