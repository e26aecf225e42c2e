-- What is claimed of the rounds. A term of each type stands in proofs/Claims.antt.
use Rattle.std.specs.Prelude.{◌≡◌, List, ◌≤◌, length}
use Rattle.layers.specs.State.{State, IsState}
use Rattle.rounds.specs.Rounds.{enciphered, turned, AllStates}

-- Demand 3, its last sentence: for every list of two or more subkeys and every block, the rounds run again on their result under the
-- turned list restore the block. A list of 11 to 24 subkeys is a case of it. A list of fewer than two has no rounds.
unfoldable pub RestoresBlock : Type 0
RestoresBlock = (ks : List State) (a : State) → 2 ≤ length ks → AllStates ks → IsState a → enciphered (turned ks) (enciphered ks a) ≡ a

-- and the other way round: paper 000, Theorem 1, says that the one is the inverse of the other
unfoldable pub RestoredByList : Type 0
RestoredByList = (ks : List State) (a : State) → 2 ≤ length ks → AllStates ks → IsState a → enciphered ks (enciphered (turned ks) a) ≡ a
