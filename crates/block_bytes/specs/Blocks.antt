-- States and subkey lists as bytes: document 01, "The layers". Twelve bytes a state; a subkey list is lent as its subkeys, one after the
-- other.
use Rattle.std.specs.Prelude.{List, [], ◌∷◌, ◌++◌, ℕ, ◌+◌, ◌*◌, ◌/◌, length, get_or, take, drop}
use Rattle.layers.specs.State.{State, at, build}
use Rattle.rounds.specs.Rounds.{listed_from}

-- twelve bytes as a state: byte i + 3j is row i, column j. Paper 000 says so of the key (3.5) and not of the block; document 01 decides
abbrev pub state_of : List ℕ → State
state_of b = build (λ i j. get_or b (i + 3 * j) 0)

-- a state as twelve bytes
abbrev pub bytes_of : State → List ℕ
bytes_of a = at a 0 0 ∷ at a 1 0 ∷ at a 2 0 ∷ at a 0 1 ∷ at a 1 1 ∷ at a 2 1 ∷ at a 0 2 ∷ at a 1 2 ∷ at a 2 2 ∷ at a 0 3 ∷ at a 1 3 ∷ at a 2 3 ∷ []

-- the subkeys of a lent list: subkey r is the twelve bytes from 12r on
unfoldable pub list_states : List ℕ → List State
list_states bytes = listed_from 0 (length bytes / 12) (λ r. state_of (take 12 (drop (12 * r) bytes)))

-- a subkey list as it is lent
unfoldable pub list_bytes : List State → List ℕ
list_bytes [] = []
list_bytes (k ∷ ks) = bytes_of k ++ list_bytes ks
