-- A term of each type of specs/Claims.antt.
use Rattle.sbox.specs.Claims.{SboxUndoesItself, SboxIsPublished}
use Rattle.sbox.proofs.Laws.{sbox-sbox, sbox_byte, is-published}

pub sbox_undoes_itself : SboxUndoesItself
unfolding SboxUndoesItself
sbox_undoes_itself x h = (sbox-sbox x h, sbox_byte x h)

pub sbox_is_published : SboxIsPublished
unfolding SboxIsPublished
sbox_is_published = is-published
