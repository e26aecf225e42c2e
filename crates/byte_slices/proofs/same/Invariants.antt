-- `byte_slices::same` meets its contract. The invariant: what was the same so far, and the rest.
use mathlib.Core.Path.{◌≡◌}
use mathlib.Core.Bool.{◌&&◌}
use lib.ListN.{length, drop}
use Rattle.byte_slices.specs.Slices.{same_bytes}
use Rattle.byte_slices.proofs.same.Given as goal

abbrev pub invariant-loop-i : goal.invariant-loop-i
invariant-loop-i l = (same_bytes l.a l.b ≡ (l.equal && same_bytes (drop l.i l.a) (drop l.i l.b))) × (length l.a ≡ length l.b)
