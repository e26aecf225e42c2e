-- A term of each type of specs/Claims.antt.
use Rattle.period.specs.Claims.{PeriodExactly, EveryStep, StageZeroAgain}
use Rattle.stages.specs.Stages.{stage_after}
use Rattle.period.proofs.Home.{period}
use Rattle.period.proofs.Before.{not_before}
use Rattle.period.proofs.Every.{each_step, again}

pub period_exactly : PeriodExactly
unfolding PeriodExactly
period_exactly t z = record { comes_home = λ k h. period t z h; not_before = not_before t z }

pub every_step : EveryStep
unfolding EveryStep stage_after
every_step t z key h = each_step t z h

pub stage_zero_again : StageZeroAgain
unfolding StageZeroAgain
stage_zero_again t z key h = again t z h
