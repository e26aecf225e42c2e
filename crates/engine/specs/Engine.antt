-- The engine over lent bytes: document 01, "What the store calls" and "Reasons found in the input".
use Rattle.std.specs.Prelude.{List, [], ◌∷◌, ℕ, eqb, leb, length}
use Rattle.refusal.specs.Tries.{Try, ◌unless◌, first, written}
use Rattle.block_bytes.specs.Blocks.{state_of, bytes_of, list_states}
use Rattle.rounds.specs.Rounds.{enciphered}
use Rattle.list_rounds.specs.ListRounds.{list_length}

-- what every call on one block tries last: the block's length, and the room for the block that is written
abbrev pub block_tries : ℕ → ℕ → List Try
block_tries block room = (3 unless eqb block 12) ∷ (4 unless leb 12 room) ∷ []

-- the order of the engine's refusals: 5, 3, 4
abbrev pub engine_tries : List ℕ → List ℕ → List ℕ → List Try
engine_tries list block out = (5 unless list_length (length list)) ∷ block_tries (length block) (length out)

-- the block that the engine gives
unfoldable pub engine_block : List ℕ → List ℕ → List ℕ
engine_block list block = bytes_of (enciphered (list_states list) (state_of block))

-- the number that the engine gives, and what the output holds after it
abbrev pub engine_number : List ℕ → List ℕ → List ℕ → ℕ
engine_number list block out = first (engine_tries list block out)

abbrev pub engine_output : List ℕ → List ℕ → List ℕ → List ℕ
engine_output list block out = written (engine_number list block out) (engine_block list block) out
