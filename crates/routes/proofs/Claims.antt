-- A term of each type of specs/Claims.antt.
use mathlib.Core.Path.{refl, sym}
use Rattle.refusal.specs.Tries.{first}
use mathlib.Core.List.{[]}
use Rattle.refusal.proofs.Tries.{first_holds}
use Rattle.refusal.proofs.Answers.{answer-refused}
use Rattle.holder.specs.Holder.{whole, blank, stepped}
use Rattle.holder_walk.specs.Walk.{walked, walk_tries, walk_number, walk_holder}
use Rattle.holder_steps.specs.Steps.{holder_tries, holder_number, step_holder}
use lib.ListN.{length}
use Rattle.refusal.proofs.Ladder.{ordered}
use Rattle.holder_from_key.specs.FromKey.{make_tries, straight_tries}
use Rattle.routes.specs.Claims.{AnyRoute, FullTurn, WalkIsShortest, HolderInOrder, RefusalKeepsHolder, BrokenIsRefused, BlankIsRefused}
use Rattle.routes.proofs.Ring.{shortest}
use Rattle.routes.proofs.Routes.{any_route_of}
use Rattle.routes.proofs.Held.{comes_home}

pub any_route : AnyRoute
unfolding AnyRoute
any_route key bytes right cs = any_route_of key bytes right cs

pub full_turn : FullTurn
unfolding FullTurn
full_turn = comes_home

pub walk_is_shortest : WalkIsShortest
unfolding WalkIsShortest
walk_is_shortest t s d hs hd = shortest t s d hs hd

pub holder_in_order : HolderInOrder
unfolding HolderInOrder
holder_in_order key n h = record {
  made = ordered (make_tries key) refl;
  straight = ordered (straight_tries (length key) n) refl;
  steps = ordered (holder_tries h) refl;
  walks = ordered (walk_tries h n) refl;
}

pub refusal_keeps_holder : RefusalKeepsHolder
unfolding RefusalKeepsHolder step_holder walk_holder
refusal_keeps_holder h = (
  λ way p. sym (answer-refused (holder_tries h) (holder_number h) (stepped way h) h p refl),
  λ d p. sym (answer-refused (walk_tries h d) (walk_number h d) (walked h d) h p refl),
)

pub broken_is_refused : BrokenIsRefused
unfolding BrokenIsRefused
broken_is_refused h e = record { steps = first_holds _ [] e; walks = λ d. first_holds _ _ e }

pub blank_is_refused : BlankIsRefused
unfolding BlankIsRefused first whole blank
blank_is_refused = record { steps = refl; walks = λ d. refl }
