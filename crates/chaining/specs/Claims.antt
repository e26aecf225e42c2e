-- What is claimed of chaining. A term of each type stands in proofs/Claims.antt.
use Rattle.std.specs.Prelude.{◌≡◌, List, ◌≤◌, length}
use Rattle.layers.specs.State.{State, IsState}
use Rattle.rounds.specs.Rounds.{enciphered, turned, AllStates}
use Rattle.chaining.specs.Chaining.{chained, unchained}

-- Request 3: under any list of two or more subkeys and from any start, blocks that were chained are restored by the undoing under the turned
-- list, however many they are. So no two lists of blocks are chained to one
unfoldable pub RestoresBlocks : Type 0
RestoresBlocks = (ks : List State) (start : State) (bs : List State) → 2 ≤ length ks → AllStates ks → IsState start → AllStates bs
    → unchained (enciphered (turned ks)) start (chained (enciphered ks) start bs) ≡ bs

-- and the other way round: what the undoing gives, chained again, is what was undone. So every list of blocks is one that some list is chained to
unfoldable pub RestoredByChaining : Type 0
RestoredByChaining = (ks : List State) (start : State) (cs : List State) → 2 ≤ length ks → AllStates ks → IsState start → AllStates cs
    → chained (enciphered ks) start (unchained (enciphered (turned ks)) start cs) ≡ cs
