-- What only tells the prover something of the code.
use Rattle.std.specs.Prelude.{true, ◌≡◌, ℕ, ◌≤◌}
use Rattle.sizes.specs.Sizes.{key_length, rounds_allowed}
use Rattle.rights.specs.Rights.{is_right}

-- a key of n bytes, a round count, a right and room for a grant, all of which were tried
pub record Issuable (n rounds right room : ℕ) : Type 0 where
  pub key : key_length n ≡ true
  pub round-count : rounds_allowed n rounds ≡ true
  pub asked : is_right right ≡ true
  pub fits : 12 ≤ room
