-- A term of each type of specs/Lemmas.antt.
use Rattle.rounds.specs.Lemmas.{TurnedGivesStates, TurnedTwice, RoundsGiveStates}
use Rattle.rounds.proofs.Turned.{turned-turned, turned_states}
use Rattle.rounds.proofs.Restored.{enciphered_state}

pub turned_gives_states : TurnedGivesStates
unfolding TurnedGivesStates
turned_gives_states = turned_states

pub turned_twice : TurnedTwice
unfolding TurnedTwice
turned_twice = turned-turned

pub rounds_give_states : RoundsGiveStates
unfolding RoundsGiveStates
rounds_give_states = enciphered_state
