-- A term of each type of specs/Claims.antt.
use Rattle.cycle.specs.Claims.{StepBackUndoes, StepsFollowStages}
use Rattle.cycle.proofs.Around.{back_undoes, forward_undoes, after-key, before-key}

pub step_back_undoes : StepBackUndoes
unfolding StepBackUndoes
step_back_undoes t s k p = (back_undoes t s p, forward_undoes t s p)

pub steps_follow_stages : StepsFollowStages
unfolding StepsFollowStages
steps_follow_stages t z key p s h = (after-key t z p s h, before-key t z p s h)
