-- The known answers: each is computed from the definitions.
use mathlib.Core.Path.{refl}
use Rattle.basics.specs.Cases.{Hold}
use Rattle.grant.specs.Grants.{plain_grant, contractor_in, count_in, size_block_in}
use Rattle.grant.specs.KnownAnswers.{known_answers}

pub known_answers_lem : Hold known_answers
unfolding known_answers plain_grant contractor_in count_in size_block_in
known_answers_lem = (refl, (refl, (refl, tt)))
