-- The known answers: each is computed from the definitions.
use mathlib.Core.Path.{refl}
use Rattle.basics.specs.Cases.{Hold}
use Rattle.basics.proofs.Cases.{◌&◌}
use Rattle.refusal.specs.Tries.{first, answered}
use Rattle.roll.specs.Roll.{empty_roll, count_of, figure_of, in_standing, with_entry}
use Rattle.roll_changes.specs.Changes.{entered_roll, withdrawn_roll, changed_roll}
use Rattle.roll_changes.specs.KnownAnswers.{known_answers}

pub known_answers_lem : Hold known_answers
unfolding known_answers first answered empty_roll count_of figure_of in_standing with_entry entered_roll withdrawn_roll changed_roll
known_answers_lem =
    refl & refl & refl & refl & refl & refl & refl & refl & refl & refl & refl & refl & refl & refl & refl & refl
    & refl & refl & refl & refl & refl & refl & refl & refl & refl & refl & refl & refl & refl & refl & refl & tt
