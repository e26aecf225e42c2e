-- What is claimed of a roll's bytes: request 6, "Demoting without dropping". A term of each type stands in proofs/Claims.antt.
use Rattle.std.specs.Prelude.{◌≡◌, List, ◌++◌, ℕ, ◌<◌, length, get_or, replicate}
use Rattle.basics.specs.Bytes.{AreBytes}
use Rattle.roll.specs.declared.Roll.{Roll}
use Rattle.roll.specs.Roll.{empty_roll}
use Rattle.roll_bytes.specs.RollBytes.{roll_length, roll_of, roll_bytes}

-- the bytes of an empty roll are 400 zeros and 200 ones
unfoldable pub EmptyRollBytes : Type 0
EmptyRollBytes = roll_bytes empty_roll ≡ replicate 400 0 ++ replicate 200 1

-- the roll that is read from a roll's bytes is that roll, where it has 200 counts and they are 16-bit numbers
unfoldable pub BytesTellRoll : Type 0
BytesTellRoll = (roll : Roll) → length roll.counts ≡ 200 → ((i : ℕ) → get_or roll.counts i 0 < 65536) → roll_of (roll_bytes roll) ≡ roll

-- and any 600 bytes are those of the roll that is read from them: none is lost, and none is changed
unfoldable pub RollTellsBytes : Type 0
RollTellsBytes = (bytes : List ℕ) → AreBytes bytes → length bytes ≡ roll_length → roll_bytes (roll_of bytes) ≡ bytes
