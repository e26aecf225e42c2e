-- What only tells the prover something of the code.
use Rattle.std.specs.Prelude.{true, ◌≡◌, ℕ}
use Rattle.sizes.specs.Sizes.{key_length, rounds_allowed}

-- a key of n bytes, a round count and a block of so many bytes, all of which were tried
pub record Runnable (n rounds block : ℕ) : Type 0 where
  pub key : key_length n ≡ true
  pub round-count : rounds_allowed n rounds ≡ true
  pub twelve : block ≡ 12
