-- What only tells the prover something of the code: what the functions that open a page are handed.
use Rattle.std.specs.Prelude.{◌≡◌, true, List, ℕ, ◌≤◌, length}
use Rattle.sizes.specs.Sizes.{key_length, rounds_allowed}
use Rattle.pages.specs.Pages.{used_in}

-- keys of so many bytes, a round count and a page that were tried, scratch of 576 bytes and room for the payload
pub record Openable (first second rounds : ℕ) (page : List ℕ) (room out : ℕ) : Type 0 where
  pub key-length : key_length first ≡ true
  pub one_length : second ≡ first
  pub round-count : rounds_allowed first rounds ≡ true
  pub size : length page ≡ 512
  pub used : used_in page ≤ 492
  pub scratch : room ≡ 576
  pub fits : 492 ≤ out
