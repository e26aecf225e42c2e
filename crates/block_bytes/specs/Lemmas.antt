-- Laws of states and lists as bytes that only serve proofs: no demand asks for them. A term of each type stands in proofs/Lemmas.antt.
use Rattle.std.specs.Prelude.{◌≡◌, List, ℕ, length}
use Rattle.layers.specs.State.{State, IsState}
use Rattle.rounds.specs.Rounds.{AllStates}
use Rattle.block_bytes.specs.Blocks.{state_of, bytes_of, list_states, list_bytes}

-- a state and its bytes, a subkey list and its bytes, tell each other
unfoldable pub BytesTellStates : Type 0
BytesTellStates = (a : State) → IsState a → state_of (bytes_of a) ≡ a

unfoldable pub StatesTellBytes : Type 0
StatesTellBytes = (b : List ℕ) → length b ≡ 12 → bytes_of (state_of b) ≡ b

unfoldable pub BytesTellLists : Type 0
BytesTellLists = (ks : List State) → AllStates ks → list_states (list_bytes ks) ≡ ks
