-- What only tells the prover something of the code: what the functions that look into a page are handed.
use Rattle.std.specs.Prelude.{◌≡◌, List, ℕ, ◌≤◌, length}
use Rattle.pages.specs.Pages.{used_in}
use Rattle.page_parts.specs.ForProver.{Ready}

-- a key and a round count that were tried, room for a list, and a page whose length and count were tried
pub record Readable (n rounds : ℕ) (page : List ℕ) (room : ℕ) : Type 0 where
  pub ready : Ready n rounds room
  pub size : length page ≡ 512
  pub used : used_in page ≤ 492
