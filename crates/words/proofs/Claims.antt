-- A term of each type of specs/Claims.antt.
use Rattle.words.specs.Claims.{DoublingByMasks}
use Rattle.words.proofs.Doubling.{doubles}

pub doubling_by_masks : DoublingByMasks
unfolding DoublingByMasks
doubling_by_masks = doubles
