-- The known answers: each is computed from the definitions.
use mathlib.Core.Path.{refl}
use Rattle.basics.specs.Cases.{Hold}
use Rattle.basics.proofs.Cases.{◌&◌}
use Rattle.refusal.specs.Tries.{first}
use Rattle.size_blocks.specs.SizeBlocks.{is_size_block}
use Rattle.rights.specs.Rights.{highest, within_highest}
use Rattle.roll.specs.Roll.{empty_roll, count_of, figure_of, in_standing, with_entry}
use Rattle.issuing.specs.KnownAnswers.{known_answers, zero_answers}

pub known_answers_lem : Hold known_answers
unfolding known_answers first is_size_block highest within_highest empty_roll count_of figure_of in_standing with_entry
known_answers_lem =
    refl & refl & refl & refl & refl & refl & refl & refl & refl & refl & refl & refl & tt

pub zero_answers_lem : Hold zero_answers
unfolding zero_answers first is_size_block highest within_highest empty_roll count_of figure_of in_standing with_entry
zero_answers_lem = refl & refl & refl & refl & refl & refl & refl & refl & refl & refl & refl & refl & refl & tt
