-- `unchain::is_zero_from` meets its contract. The invariant: whether what was undone so far is zero, and what is left.
use mathlib.Core.Path.{◌≡◌}
use mathlib.Core.Bool.{◌&&◌}
use mathlib.Core.List.{List}
use Prim.Native.Nat.{ℕ, ◌≤◌}
use lib.ListN.{drop}
use Rattle.layers.specs.State.{State}
use Rattle.rounds.specs.Rounds.{enciphered}
use Rattle.block_bytes.specs.Blocks.{list_states, list_bytes}
use Rattle.byte_slices.specs.Slices.{all_zero}
use Rattle.chaining.specs.Chaining.{unchained}
use Rattle.unchain.proofs.is_zero_from.Given as goal

-- what is left to undo, from a place in its first block on
abbrev pub rest : List ℕ → List ℕ → ℕ → ℕ → State → List ℕ
rest list bytes i skip previous = drop skip (list_bytes (unchained (enciphered (list_states list)) previous (drop i (list_states bytes))))

abbrev pub invariant-loop-i : goal.invariant-loop-i
invariant-loop-i l = (all_zero (rest l.list l.bytes l.initial.i l.initial.skip l.initial.previous)
    ≡ (l.zero && all_zero (rest l.list l.bytes l.i l.skip l.previous))) × (l.skip ≤ 12)
