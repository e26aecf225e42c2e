-- What only tells the prover something of the code: what the functions that fill a list are handed.
use Rattle.std.specs.Prelude.{◌≡◌, true, ℕ, ◌+◌, ◌*◌, ◌<◌, ◌≤◌}
use Rattle.sizes.specs.Sizes.{key_length}

-- a key of n bytes, a number of rounds from 1 to 6t - 1, and room for the list
pub record Fits (n rounds room : ℕ) : Type 0 where
  pub key : key_length n ≡ true
  pub some : 0 < rounds
  pub most : rounds < n
  pub fits : 12 * (rounds + 1) ≤ room
