-- The known answers: each is computed from the definitions.
use mathlib.Core.Path.{refl}
use Rattle.basics.specs.Cases.{Hold}
use Rattle.roll.specs.Roll.{in_standing}
use Rattle.roll.specs.KnownAnswers.{known_answers}

pub known_answers_lem : Hold known_answers
unfolding known_answers in_standing
known_answers_lem = (refl, (refl, (refl, (refl, (refl, (refl, (refl, tt)))))))
