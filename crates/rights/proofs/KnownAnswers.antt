-- The known answers: each is computed from the definitions.
use mathlib.Core.Path.{refl}
use Rattle.basics.specs.Cases.{Hold}
use Rattle.basics.proofs.Cases.{◌&◌}
use Rattle.rights.specs.Rights.{covers, highest, within_highest}
use Rattle.rights.specs.KnownAnswers.{known_answers}

pub known_answers_lem : Hold known_answers
unfolding known_answers covers highest within_highest
known_answers_lem =
    refl & refl & refl & refl & refl & refl & refl & refl & refl & refl & refl & refl & refl
    & refl & refl & refl & refl & refl & refl & refl & refl & refl & refl & refl & refl & refl & tt
