-- What only tells the prover something of the code; no definition of the S-box needs it.
use Rattle.std.specs.Prelude.{◌≡◌, ℕ, ◌<◌}

-- what the code knows of a 4-bit number r that it computed: it is n, and below 16
pub record IsNibble (r n : ℕ) : Type 0 where
  pub is : r ≡ n
  pub small : r < 16
