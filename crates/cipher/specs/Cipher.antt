-- One block enciphered or deciphered: document 01, "What the store calls", "Reasons found in the input" and its order line; paper 000,
-- sections 3.9 and 3.10.
use Rattle.std.specs.Prelude.{List, ◌++◌, ℕ, length}
use Rattle.refusal.specs.Tries.{Try, first, written}
use Rattle.rounds.specs.Rounds.{enciphered}
use Rattle.block_bytes.specs.Blocks.{state_of, bytes_of}
use Rattle.engine.specs.Engine.{block_tries}
use Rattle.settings.specs.Settings.{settings_tries}
use Rattle.key_lists.specs.declared.Direction.{Direction}
use Rattle.key_lists.specs.KeyLists.{list_for}

-- the order of refusals of enciphering and deciphering a block: 1, 2, then 3, 4
abbrev pub cipher_tries : List ℕ → ℕ → List ℕ → List ℕ → List Try
cipher_tries key rounds block out = settings_tries (length key) rounds ++ block_tries (length block) (length out)

-- the block enciphered or deciphered
unfoldable pub cipher_block : Direction → List ℕ → ℕ → List ℕ → List ℕ
cipher_block d key rounds block = bytes_of (enciphered (list_for d key rounds) (state_of block))

-- the number that enciphering or deciphering gives, and what the output holds after it
abbrev pub cipher_number : List ℕ → ℕ → List ℕ → List ℕ → ℕ
cipher_number key rounds block out = first (cipher_tries key rounds block out)

abbrev pub cipher_output : Direction → List ℕ → ℕ → List ℕ → List ℕ → List ℕ
cipher_output d key rounds block out = written (cipher_number key rounds block out) (cipher_block d key rounds block) out
