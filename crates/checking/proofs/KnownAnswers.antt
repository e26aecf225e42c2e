-- The known answers: each is computed from the definitions.
use mathlib.Core.Path.{refl}
use Rattle.basics.specs.Cases.{Hold}
use Rattle.refusal.specs.Tries.{first}
use Rattle.size_blocks.specs.SizeBlocks.{is_size_block}
use Rattle.checking.specs.KnownAnswers.{known_answers}

pub known_answers_lem : Hold known_answers
unfolding known_answers first is_size_block
known_answers_lem = (refl, (refl, (refl, (refl, (refl, tt)))))
