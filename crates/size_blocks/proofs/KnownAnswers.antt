-- The known answers: each is computed from the definition.
use mathlib.Core.Path.{refl}
use Rattle.basics.specs.Cases.{Hold}
use Rattle.basics.proofs.Cases.{◌&◌}
use Rattle.size_blocks.specs.SizeBlocks.{is_size_block}
use Rattle.size_blocks.specs.KnownAnswers.{known_answers}

pub known_answers_lem : Hold known_answers
unfolding known_answers is_size_block
known_answers_lem = refl & refl & refl & refl & refl & refl & tt
