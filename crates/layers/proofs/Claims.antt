-- A term of each type of specs/Claims.antt.
use Rattle.layers.specs.Claims.{DiffusionUndoesItself}
use Rattle.layers.proofs.Layers.{diffused-diffused}

pub diffusion_undoes_itself : DiffusionUndoesItself
unfolding DiffusionUndoesItself
diffusion_undoes_itself a h = diffused-diffused h
