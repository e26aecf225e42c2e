-- The known answers: each is computed from the definitions.
use mathlib.Core.Path.{refl}
use Rattle.basics.specs.Cases.{Hold}
use Rattle.byte_slices.proofs.Cases.{holds}
use Rattle.byte_slices.specs.Slices.{same_bytes}
use Rattle.key_pairs.specs.KeyPairs.{are_pair}
use Rattle.key_pairs.specs.KnownAnswers.{known_answers}

pub known_answers_lem : Hold known_answers
unfolding known_answers are_pair same_bytes
known_answers_lem = holds known_answers refl
