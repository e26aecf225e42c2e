-- What only tells the prover something of the code: what the functions that undo a chaining are handed and hand back.
use Rattle.std.specs.Prelude.{◌≡◌, true, List, [], ℕ, zero, suc, ◌%◌, ◌≤◌, get_or}
use Rattle.layers.specs.State.{State}
use Rattle.list_rounds.specs.ListRounds.{list_length}

-- the enciphered block before block i; before the first, the start
unfoldable pub block_before : State → List State → ℕ → State
block_before start cs zero = start
block_before start cs (suc i) = get_or cs i []

-- a subkey list of so many bytes, whole blocks, and room for them
pub record Undoable (list bytes room : ℕ) : Type 0 where
  pub listed : list_length list ≡ true
  pub blocks : bytes % 12 ≡ 0
  pub fits : bytes ≤ room

-- and a place in them
pub record Testable (list bytes n : ℕ) : Type 0 where
  pub listed : list_length list ≡ true
  pub blocks : bytes % 12 ≡ 0
  pub place : n ≤ bytes
