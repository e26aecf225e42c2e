-- Subkey lists of a key: document 01, "Turned list" and "Key stages"; paper 000, sections 3.8 and 3.10.
use Rattle.std.specs.Prelude.{List, ℕ, suc, length}
use Rattle.layers.specs.State.{State}
use Rattle.rounds.specs.Rounds.{listed_from, turned}
use Rattle.block_bytes.specs.Blocks.{list_bytes}
use Rattle.sizes.specs.Sizes.{t_of}
use Rattle.stages.specs.Stages.{stage, subkey_of}
use Rattle.key_lists.specs.declared.Direction.{Direction}
use Rattle.key_lists.specs.declared.Direction.TheVariants.{Enciphering, Deciphering}

-- subkey s of a key
abbrev pub subkey : List ℕ → ℕ → State
subkey key s = subkey_of (stage (t_of (length key)) key s)

-- subkeys 0 to R of a key
unfoldable pub subkeys : List ℕ → ℕ → List State
subkeys key R = listed_from 0 (suc R) (subkey key)

-- the list for a direction: the subkeys for enciphering, their turned list for deciphering
unfoldable pub list_for : Direction → List ℕ → ℕ → List State
list_for Enciphering key R = subkeys key R
list_for Deciphering key R = turned (subkeys key R)

-- the bytes of a prepared list
unfoldable pub prepared : Direction → List ℕ → ℕ → List ℕ
prepared d key rounds = list_bytes (list_for d key rounds)
