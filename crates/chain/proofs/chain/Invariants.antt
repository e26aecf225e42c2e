-- `chain::chain` meets its contract. The invariant: the blocks that are chained so far, and what is left to chain.
use lib.ListN.{drop}
use Rattle.rounds.specs.Rounds.{enciphered}
use Rattle.block_bytes.specs.Blocks.{list_states, list_bytes}
use Rattle.block_bytes.proofs.Blockwise.{Blockwise}
use Rattle.chaining.specs.Chaining.{chained, chained_bytes}
use Rattle.chain.proofs.chain.Given as goal

abbrev pub invariant-loop-i : goal.invariant-loop-i
invariant-loop-i l = let f = enciphered (list_states l.list) in
    Blockwise (chained_bytes f l.initial.previous l.initial.bytes) (list_bytes (chained f l.previous (drop l.i
    (list_states l.initial.bytes)))) l.initial.bytes l.bytes l.i
