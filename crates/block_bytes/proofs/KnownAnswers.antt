-- The known answers: each is computed from the definitions.
use mathlib.Core.Path.{refl}
use Rattle.basics.specs.Cases.{Hold}
use Rattle.field.specs.Field.{times, product, reduced}
use Rattle.block_bytes.specs.KnownAnswers.{known_answers}

pub known_answers_lem : Hold known_answers
unfolding known_answers times product reduced
known_answers_lem = (refl, (refl, (refl, (refl, (refl, tt)))))
