-- A term of each type of specs/Claims.antt.
use Rattle.diffusion.specs.Claims.{RowsTellStates, DiffusionByWords}
use Rattle.diffusion.proofs.Rows.{back, by_words}

pub rows_tell_states : RowsTellStates
unfolding RowsTellStates
rows_tell_states a h = back h

pub diffusion_by_words : DiffusionByWords
unfolding DiffusionByWords
diffusion_by_words a h = by_words h
