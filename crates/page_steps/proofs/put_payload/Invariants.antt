-- `page_steps::put_payload` meets its contract.
use mathlib.Core.Path.{◌≡◌}
use mathlib.Core.List.{◌++◌}
use Prim.Native.Nat.{◌+◌}
use lib.ListN.{length, take, drop}
use Rattle.page_steps.proofs.put_payload.Given as goal

-- as many bytes are put as the loop has gone over
abbrev pub invariant-loop-i : goal.invariant-loop-i
invariant-loop-i l = (length l.out ≡ length l.initial.out)
    × (l.out ≡ take 12 l.initial.out ++ (take l.i l.payload ++ drop (12 + l.i) l.initial.out))
