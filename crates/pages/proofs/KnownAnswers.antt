-- The known answers: each is computed from the definitions.
use mathlib.Core.Path.{refl}
use Rattle.basics.specs.Cases.{Hold}
use Rattle.byte_slices.proofs.Cases.{holds}
use Rattle.byte_slices.specs.Slices.{all_zero, same_bytes}
use Rattle.pages.specs.Pages.{page_form}
use Rattle.pages.specs.KnownAnswers.{form_of, known_answers}

pub known_answers_lem : Hold known_answers
unfolding known_answers form_of page_form all_zero same_bytes
known_answers_lem = holds known_answers refl
