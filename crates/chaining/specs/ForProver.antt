-- What only tells the prover something of the code: what the functions that chain blocks in lent bytes are handed.
use Rattle.std.specs.Prelude.{◌≡◌, true, ℕ, ◌%◌}
use Rattle.list_rounds.specs.ListRounds.{list_length}

-- a subkey list of so many bytes, and whole blocks
pub record Chainable (list bytes : ℕ) : Type 0 where
  pub listed : list_length list ≡ true
  pub blocks : bytes % 12 ≡ 0
