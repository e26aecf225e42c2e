-- What is claimed of the engine. A term of each type stands in proofs/Claims.antt.
use Rattle.std.specs.Prelude.{◌≡◌, List, ◌++◌, ℕ, ◌≤◌, length, take, drop}
use Rattle.rounds.specs.Rounds.{turned}
use Rattle.block_bytes.specs.Blocks.{list_states, list_bytes}
use Rattle.basics.specs.Bytes.{AreBytes}
use Rattle.engine.specs.Engine.{engine_number, engine_output}

-- a lent list, turned
abbrev pub turned_bytes : List ℕ → List ℕ
turned_bytes list = list_bytes (turned (list_states list))

-- the second run is not refused, and writes the block
pub record Restored (list given again block : List ℕ) : Type 0 where
  pub accepted : engine_number (turned_bytes list) given again ≡ 0
  pub block_back : engine_output (turned_bytes list) given again ≡ block ++ drop 12 again

-- demand 3, its last sentence, of the engine: after every run that is not refused, the twelve bytes that it wrote, handed to it again under
-- the turned list with room for twelve bytes, are not refused, and give the block back
unfoldable pub EngineRestores : Type 0
EngineRestores = (list block out again : List ℕ) → AreBytes list → AreBytes block → engine_number list block out ≡ 0 → 12 ≤ length again
    → Restored list (take 12 (engine_output list block out)) again block
