-- What is claimed of the key schedule. A term of each type stands in proofs/Claims.antt. The period of the linear step and every
-- step of the turn are claimed in the crate `period`.
use Rattle.std.specs.Prelude.{◌≡◌, List, ℕ}
use Rattle.field.specs.Field.{◌⊕◌, cube_root}
use Rattle.stages.specs.Columns.{IsStage, column_rule}
use Rattle.stages.specs.Stages.{linear_step, inverse_step}

-- the column rules with c and with c + 1 undo each other, on every stage of any number of columns
unfoldable pub ColumnRuleUndone : Type 0
ColumnRuleUndone = (n : ℕ) (k : List ℕ) → IsStage n k
    → (column_rule (cube_root ⊕ 1) n (column_rule cube_root n k) ≡ k) × (column_rule cube_root n (column_rule (cube_root ⊕ 1) n k) ≡ k)

-- the linear step and its inverse undo each other
unfoldable pub StepsUndo : Type 0
StepsUndo = (n : ℕ) (k : List ℕ) → IsStage n k → (inverse_step n (linear_step n k) ≡ k) × (linear_step n (inverse_step n k) ≡ k)
