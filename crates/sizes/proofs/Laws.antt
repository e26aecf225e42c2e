-- The laws of key sizes.
use mathlib.Core.Path.{◌≡◌}
use mathlib.Core.Bool.{true, ◌&&◌}
use Prim.Native.Nat.{ℕ, ◌≤◌}
use lib.Dec.{leb}
use borrow.Author.Tests.{leb-true}
use Rattle.basics.proofs.Tests.{and_first, and_second}
use Rattle.sizes.specs.Sizes.{key_length, t_of, least_rounds, most_rounds, rounds_allowed}

-- what an allowed round count says
pub limits : (n rounds : ℕ) → rounds_allowed n rounds ≡ true → (least_rounds (t_of n) ≤ rounds) × (rounds ≤ most_rounds (t_of n))
limits n rounds e =
    let r = and_second (key_length n) (leb (least_rounds (t_of n)) rounds && leb rounds (most_rounds (t_of n))) e in (
      leb-true (least_rounds (t_of n)) rounds (and_first (leb (least_rounds (t_of n)) rounds) (leb rounds (most_rounds (t_of n))) r),
      leb-true rounds (most_rounds (t_of n)) (and_second (leb (least_rounds (t_of n)) rounds) (leb rounds (most_rounds (t_of n))) r),
    )
