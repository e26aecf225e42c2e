-- `holder_walk::walk` meets its contract.
use Rattle.refusal.specs.Tries.{first, answered}
use Rattle.holder_walk.specs.Walk.{ring_distance, way_to, walked, walk_holder, walk_steps, walk_way}
use borrow.Author.Rules.{rules}
use Rattle.holder_walk.proofs.walk.Goals as goal

pub returns-in_err-require : goal.returns-in_err-require
unfolding first answered walk_holder walk_steps walk_way
returns-in_err-require c = search rules

pub returns-in_err-require-2 : goal.returns-in_err-require-2
unfolding first answered walk_holder walk_steps walk_way
returns-in_err-require-2 c = search rules

pub returns : goal.returns
unfolding first answered walk_holder walk_steps walk_way walked ring_distance way_to
returns c = search rules
