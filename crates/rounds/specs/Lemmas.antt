-- Laws of the rounds that only serve proofs: no demand asks for them. A term of each type stands in proofs/Lemmas.antt.
use Rattle.std.specs.Prelude.{◌≡◌, List, length}
use Rattle.layers.specs.State.{State, IsState}
use Rattle.rounds.specs.Rounds.{enciphered, turned, AllStates}

-- the turned list is as long as the list, and has states for states
unfoldable pub TurnedGivesStates : Type 0
TurnedGivesStates = (ks : List State) → AllStates ks → (length (turned ks) ≡ length ks) × AllStates (turned ks)

-- a list turned twice is the list
unfoldable pub TurnedTwice : Type 0
TurnedTwice = (ks : List State) → AllStates ks → turned (turned ks) ≡ ks

-- the rounds make a state of a state
unfoldable pub RoundsGiveStates : Type 0
RoundsGiveStates = (ks : List State) (a : State) → AllStates ks → IsState a → IsState (enciphered ks a)
