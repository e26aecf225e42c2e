-- The known answers: each is computed from the definitions.
use mathlib.Core.Path.{refl}
use Rattle.basics.specs.Cases.{Hold}
use Rattle.basics.proofs.Cases.{◌&◌}
use Rattle.refusal.specs.Tries.{first, answered}
use Rattle.byte_slices.specs.Slices.{all_zero}
use Rattle.holder.specs.Holder.{whole, blank}
use Rattle.holder_walk.specs.Walk.{ring_distance, way_to, walk_steps, walk_way}
use Rattle.holder_bytes.specs.HolderBytes.{holder_of}
use Rattle.holder_walk_call.specs.WalkCall.{walk_call_code}
use Rattle.holder_walk_call.specs.KnownAnswers.{known_answers}

pub known_answers_lem : Hold known_answers
unfolding known_answers first answered all_zero whole blank ring_distance way_to walk_steps walk_way holder_of walk_call_code
known_answers_lem = refl & refl & refl & refl & refl & refl & refl & refl & refl & refl & refl & refl & refl & refl & tt
