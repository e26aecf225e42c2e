-- The known answers: each is computed from the definitions.
use mathlib.Core.Path.{refl}
use Rattle.basics.specs.Cases.{Hold}
use Rattle.basics.proofs.Cases.{◌&◌}
use Rattle.rights.specs.Rights.{highest}
use Rattle.roll.specs.Roll.{empty_roll, count_of, figure_of, with_entry}
use Rattle.roll_bytes.specs.RollBytes.{counts_of, roll_of, counts_bytes, roll_bytes}
use Rattle.roll_bytes.specs.KnownAnswers.{counting_from, known_answers}

pub known_answers_lem : Hold known_answers
unfolding known_answers highest empty_roll count_of figure_of with_entry counts_of roll_of counts_bytes roll_bytes counting_from
known_answers_lem = refl & refl & refl & refl & refl & refl & refl & refl & refl & refl & refl & tt
