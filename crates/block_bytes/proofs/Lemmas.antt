-- A term of each type of specs/Lemmas.antt.
use Rattle.block_bytes.specs.Lemmas.{BytesTellStates, StatesTellBytes, BytesTellLists}
use Rattle.block_bytes.proofs.RoundTrip.{state_bytes, bytes_state, list_bytes_lem}

pub bytes_tell_states : BytesTellStates
unfolding BytesTellStates
bytes_tell_states a h = state_bytes h

pub states_tell_bytes : StatesTellBytes
unfolding StatesTellBytes
states_tell_bytes = bytes_state

pub bytes_tell_lists : BytesTellLists
unfolding BytesTellLists
bytes_tell_lists = list_bytes_lem
