-- `holder::step_bytes` meets its contract.
use native.Mathlib.Omega.{arith}
use Rattle.cycle.proofs.Numbers.{preceding-below}
use Rattle.holder.proofs.Whole.{number_asks}
use Rattle.holder.proofs.step_bytes.Goals as goal

pub overflow_add-number : goal.overflow_add-number
overflow_add-number c = let a = number_asks _ c.requires in omega (arith, a.0.most, a.1)

pub next_stage-requires : goal.next_stage-requires
next_stage-requires c = (number_asks _ c.requires).0

pub number_after-requires : goal.number_after-requires
number_after-requires c = number_asks _ c.requires

pub number_before-before-requires : goal.number_before-before-requires
number_before-before-requires c = number_asks _ c.requires

pub overflow_add-before : goal.overflow_add-before
overflow_add-before c = let a = number_asks _ c.requires in omega (arith, a.0.most, preceding-below _ _ a.1, c.number_before-before.ensures)

pub previous_stage-requires : goal.previous_stage-requires
previous_stage-requires c = (number_asks _ c.requires).0
