-- The known answers: each is computed from the definitions.
use mathlib.Core.Path.{refl}
use Rattle.basics.specs.Cases.{Hold}
use Rattle.basics.proofs.Cases.{◌&◌}
use Rattle.refusal.specs.Tries.{first}
use Rattle.byte_slices.specs.Slices.{all_zero}
use Rattle.holder.specs.Holder.{whole, blank}
use Rattle.holder_bytes.specs.HolderBytes.{holder_of}
use Rattle.holder_calls.specs.KnownAnswers.{known_answers}

pub known_answers_lem : Hold known_answers
unfolding known_answers first all_zero whole blank holder_of
known_answers_lem = refl & refl & refl & refl & refl & refl & refl & refl & refl & refl & tt
