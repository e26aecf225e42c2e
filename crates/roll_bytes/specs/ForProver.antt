-- What only tells the prover something of the code.
use Rattle.std.specs.Prelude.{true, ◌≡◌, List, ℕ, length}
use Rattle.roll.specs.Roll.{is_contractor}
use Rattle.roll_bytes.specs.RollBytes.{roll_length}

-- bytes that hold a roll, and a contractor who has an entry on it
pub record Writable (bytes : List ℕ) (c : ℕ) : Type 0 where
  pub long : length bytes ≡ roll_length
  pub contractor : is_contractor c ≡ true
