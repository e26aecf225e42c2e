-- What is claimed of a key's lists. A term of each type stands in proofs/Claims.antt.
use Rattle.std.specs.Prelude.{true, ◌≡◌, List, ℕ, length}
use Rattle.rounds.specs.Rounds.{turned}
use Rattle.block_bytes.specs.Blocks.{list_states}
use Rattle.basics.specs.Bytes.{AreBytes}
use Rattle.sizes.specs.Sizes.{key_length, rounds_allowed}
use Rattle.key_lists.specs.declared.Direction.TheVariants.{Enciphering, Deciphering}
use Rattle.key_lists.specs.KeyLists.{subkeys, prepared}

-- a key and a round count that no call refuses
pub record Settings (key : List ℕ) (rounds : ℕ) : Type 0 where
  pub bytes : AreBytes key
  pub length_allowed : key_length (length key) ≡ true
  pub rounds_are_allowed : rounds_allowed (length key) rounds ≡ true

-- a list prepared for enciphering is read as subkeys 0 to R of the key's stages, one prepared for deciphering as their turned list
unfoldable pub PreparedIsList : Type 0
PreparedIsList = (key : List ℕ) (rounds : ℕ) → Settings key rounds
    → (list_states (prepared Enciphering key rounds) ≡ subkeys key rounds) × (list_states (prepared Deciphering key rounds) ≡ turned (subkeys key rounds))
