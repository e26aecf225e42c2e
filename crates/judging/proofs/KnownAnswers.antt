-- The known answers: each is computed from the definitions.
use mathlib.Core.Path.{refl}
use Rattle.basics.specs.Cases.{Hold}
use Rattle.basics.proofs.Cases.{◌&◌}
use Rattle.refusal.specs.Tries.{first, answered}
use Rattle.size_blocks.specs.SizeBlocks.{is_size_block}
use Rattle.roll.specs.Roll.{empty_roll, count_of, figure_of, in_standing}
use Rattle.rights.specs.Rights.{covers, highest, within_highest}
use Rattle.grant.specs.Grants.{plain_grant, contractor_in, count_in, size_block_in, is_marked, is_grant}
use Rattle.judging.specs.KnownAnswers.{known_answers, zero_answers}

pub known_answers_lem : Hold known_answers
unfolding known_answers first answered empty_roll count_of figure_of in_standing covers highest within_highest contractor_in count_in size_block_in
    is_marked is_grant
known_answers_lem =
    refl & refl & refl & refl & refl & refl & refl & refl & refl & refl & refl & refl & refl
    & refl & refl & refl & refl & refl & refl & refl & refl & refl & refl & refl & refl & tt

pub zero_answers_lem : Hold zero_answers
unfolding zero_answers first answered is_size_block in_standing covers highest within_highest plain_grant contractor_in count_in size_block_in is_marked
    is_grant
zero_answers_lem =
    refl & refl & refl & refl & refl & refl & refl & refl & refl & refl & refl & refl & refl
    & refl & refl & refl & refl & refl & refl & refl & refl & refl & refl & refl & refl & refl
    & refl & refl & refl & refl & refl & refl & refl & refl & refl & refl & refl & refl & refl & tt
