-- The diffusion a row at a time (request 4): a row's four columns are one word.
use Rattle.std.specs.Prelude.{List, [], ◌∷◌, ℕ, get_or}
use Rattle.field.specs.Field.{◌⊕◌}
use Rattle.words.specs.Words.{word, byte_of, doubled}
use Rattle.layers.specs.State.{State, at, build}

-- row i as a word: column 0 is its highest byte, column 3 its lowest
abbrev pub row_word : State → ℕ → ℕ
row_word a i = word (at a i)

abbrev pub row_words : State → List ℕ
row_words a = row_word a 0 ∷ row_word a 1 ∷ row_word a 2 ∷ []

-- the state whose rows are these words
abbrev pub from_rows : List ℕ → State
from_rows rows = build (λ i j. byte_of (get_or rows i 0) j)

-- the diffusion of three rows: to each a multiple of their sum is added, twice, four times or six times that sum
abbrev pub diffused_words : ℕ → ℕ → ℕ → List ℕ
diffused_words x y z =
    let s₂ = doubled ((x ⊕ y) ⊕ z) in
    let s₄ = doubled s₂ in
    (x ⊕ s₂) ∷ (y ⊕ s₄) ∷ (z ⊕ (s₂ ⊕ s₄)) ∷ []
