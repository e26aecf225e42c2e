-- `constants::closing_sum` meets its contract: each sum is computed from the definition.
use mathlib.Core.Path.{◌≡◌, sym, ap}
use Prim.Native.Nat.{ℕ}
use native.Mathlib.Omega.{arith}
use Rattle.field.specs.Field.{times, product, reduced}
use Rattle.sbox.specs.Sbox.{sbox, table_p, table_q}
use Rattle.stages.specs.Columns.{columns, plus, padded, column_rule}
use Rattle.stages.specs.Stages.{moved, linear_step, constant, stage, zeros, closing_sum}
use Rattle.constants.proofs.closing_sum.Goals as goal

pub returns-in-2 : goal.returns-in-2
unfolding closing_sum stage zeros linear_step moved column_rule plus constant padded columns sbox table_p table_q times product reduced
returns-in-2 c = ap (λ (t : ℕ). padded (closing_sum t)) (sym c.in-2.is)

pub returns-in-3 : goal.returns-in-3
unfolding closing_sum stage zeros linear_step moved column_rule plus constant padded columns sbox table_p table_q times product reduced
returns-in-3 c = ap (λ (t : ℕ). padded (closing_sum t)) (sym c.in-3.is)

pub returns-in_default : goal.returns-in_default
unfolding closing_sum stage zeros linear_step moved column_rule plus constant padded columns sbox table_p table_q times product reduced
returns-in_default c = let e : 4 ≡ c.args.t = omega arith in ap (λ (t : ℕ). padded (closing_sum t)) e
