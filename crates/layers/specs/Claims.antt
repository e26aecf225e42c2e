-- What is claimed of the layers. A term of each type stands in proofs/Claims.antt.
use Rattle.std.specs.Prelude.{◌≡◌}
use Rattle.layers.specs.State.{State, IsState}
use Rattle.layers.specs.Layers.{diffused}

-- the diffusion is its own inverse
unfoldable pub DiffusionUndoesItself : Type 0
DiffusionUndoesItself = (a : State) → IsState a → diffused (diffused a) ≡ a
