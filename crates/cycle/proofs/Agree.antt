-- The inverse step over a stage in 24 bytes is the inverse step over the stage.
use mathlib.Core.Path.{◌≡◌, ap}
use mathlib.Core.List.{List}
use Prim.Native.Nat.{ℕ}
use lib.Dec.{lit<}
use Rattle.field.specs.Field.{◌⊕◌, cube_root}
use Rattle.stages.specs.Columns.{cell, rule_byte, column_rule}
use Rattle.stages.specs.Stages.{unrotated, inverse_step}
use Rattle.stages.proofs.Columns.{fill_path}
use Rattle.stages.proofs.Padded.{Agree}
use Rattle.stages.proofs.Written.{ruled}

pub inverse_agrees : (n : ℕ) (a b : List ℕ) → Agree n a b → inverse_step n a ≡ inverse_step n b
unfolding inverse_step column_rule
inverse_agrees n a b p =
    ap (unrotated n)
    (fill_path n (ruled (cube_root ⊕ 1) (cell a)) (ruled (cube_root ⊕ 1) (cell b))
    (λ i j hi hj x. rule_byte (cube_root ⊕ 1) (p i j hi hj x) (p 0 j (lit< tt) hj x) (p 1 j (lit< tt) hj x) (p 2 j (lit< tt) hj x)))
