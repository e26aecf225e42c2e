-- A term of each type of specs/Claims.antt.
use mathlib.Core.Path.{refl}
use Rattle.refusal.proofs.Ladder.{ordered}
use Rattle.lists.specs.Lists.{prepare_tries}
use Rattle.lists.specs.Claims.{PrepareInOrder}

pub prepare_in_order : PrepareInOrder
unfolding PrepareInOrder
prepare_in_order key rounds out = ordered (prepare_tries key rounds out) refl
