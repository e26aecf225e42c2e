-- `unchain::unchain` meets its contract. The invariant: the blocks that are undone so far, and what is left to undo.
use Prim.Native.Nat.{◌/◌, ◌≤◌}
use lib.ListN.{length, drop}
use Rattle.rounds.specs.Rounds.{enciphered}
use Rattle.block_bytes.specs.Blocks.{list_states, list_bytes}
use Rattle.block_bytes.proofs.Blockwise.{Blockwise}
use Rattle.chaining.specs.Chaining.{unchained, unchained_bytes}
use Rattle.unchain.proofs.unchain.Given as goal

abbrev pub invariant-loop-i : goal.invariant-loop-i
invariant-loop-i l = let g = enciphered (list_states l.list) in
    Blockwise (unchained_bytes g l.initial.previous l.bytes) (list_bytes (unchained g l.previous (drop l.i
    (list_states l.bytes)))) l.initial.out l.out l.i × (l.i ≤ length l.bytes / 12)
