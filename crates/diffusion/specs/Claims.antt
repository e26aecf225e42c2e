-- What is claimed of the diffusion a row at a time. A term of each type stands in proofs/Claims.antt.
use Rattle.std.specs.Prelude.{◌≡◌}
use Rattle.layers.specs.State.{State, IsState}
use Rattle.layers.specs.Layers.{diffused}
use Rattle.diffusion.specs.Rows.{row_word, row_words, from_rows, diffused_words}

-- the three rows of a state, as words, are all of it
unfoldable pub RowsTellStates : Type 0
RowsTellStates = (a : State) → IsState a → from_rows (row_words a) ≡ a

-- for every state, the three words that come out are the rows of its diffusion
unfoldable pub DiffusionByWords : Type 0
DiffusionByWords = (a : State) → IsState a → diffused_words (row_word a 0) (row_word a 1) (row_word a 2) ≡ row_words (diffused a)
