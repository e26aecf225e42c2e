-- What only tells the prover something of the code: what the functions that prepare a key's list in lent room are handed.
use Rattle.std.specs.Prelude.{◌≡◌, true, ℕ, ◌≤◌}
use Rattle.sizes.specs.Sizes.{key_length, rounds_allowed}

-- a key of n bytes and a round count that were tried, and room for the longest list
pub record Ready (n rounds room : ℕ) : Type 0 where
  pub key-length : key_length n ≡ true
  pub round-count : rounds_allowed n rounds ≡ true
  pub fits : 288 ≤ room
