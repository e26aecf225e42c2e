-- What holds of two keys that are a pair.
use mathlib.Core.Path.{◌≡◌}
use mathlib.Core.Bool.{true, ◌&&◌, not}
use mathlib.Core.List.{List}
use Prim.Native.Nat.{ℕ}
use lib.Dec.{eqb}
use lib.ListN.{length}
use borrow.Author.Tests.{eqb-true}
use Rattle.basics.proofs.Tests.{and_first, and_second}
use Rattle.sizes.specs.Sizes.{key_length}
use Rattle.byte_slices.specs.Slices.{same_bytes}
use Rattle.key_pairs.specs.KeyPairs.{are_pair}

module _ (first second : List ℕ) (e : are_pair first second ≡ true) where
  pub pair_length : key_length (length first) ≡ true
  unfolding are_pair
  pair_length = and_first (key_length (length first)) (eqb (length second) (length first) && not (same_bytes first second)) e

  pub pair_one_length : length second ≡ length first
  unfolding are_pair
  pair_one_length =
      let l = eqb (length second) (length first) in
      let d = not (same_bytes first second) in
      eqb-true (length second) (length first) (and_first l d (and_second (key_length (length first)) (l && d) e))
