-- What only tells the prover something of the code: what the functions that make a page are handed.
use Rattle.std.specs.Prelude.{◌≡◌, true, ℕ, ◌≤◌}
use Rattle.sizes.specs.Sizes.{key_length, rounds_allowed}

-- keys of so many bytes, a round count and a payload that were tried, and room of 576 and 512 bytes
pub record Sealable (first second rounds payload room out : ℕ) : Type 0 where
  pub key-length : key_length first ≡ true
  pub one_length : second ≡ first
  pub round-count : rounds_allowed first rounds ≡ true
  pub fits : payload ≤ 492
  pub scratch : room ≡ 576
  pub page : out ≡ 512
