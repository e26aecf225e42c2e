-- A list of computed cases, proved by one test that computes.
use mathlib.Core.Path.{◌≡◌}
use mathlib.Core.Bool.{Bool, true, ◌&&◌}
use mathlib.Core.List.{List, [], ◌∷◌}
use Rattle.basics.specs.Cases.{Case, Hold}
use Rattle.basics.proofs.Tests.{and_first, and_second}
use Rattle.byte_slices.specs.Slices.{same_bytes}
use Rattle.byte_slices.proofs.Equal.{same_equal}

abbrev pub all_same : List Case → Bool
all_same [] = true
all_same (c ∷ cs) = same_bytes c.given c.expected && all_same cs

pub holds : (cs : List Case) → all_same cs ≡ true → Hold cs
holds [] e = tt
holds (c ∷ cs) e =
    let t = same_bytes c.given c.expected in
    (same_equal c.given c.expected (and_first t (all_same cs) e), holds cs (and_second t (all_same cs) e))
