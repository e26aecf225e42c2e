-- `chain::last_of_chain` meets its contract. The invariant: the last block of what is left to chain.
use mathlib.Core.Path.{◌≡◌}
use lib.ListN.{drop}
use Rattle.rounds.specs.Rounds.{enciphered}
use Rattle.block_bytes.specs.Blocks.{list_states}
use Rattle.chaining.specs.Chaining.{chained, last_of, last_chained}
use Rattle.chain.proofs.last_of_chain.Given as goal

abbrev pub invariant-loop-i : goal.invariant-loop-i
invariant-loop-i l = let f = enciphered (list_states l.list) in
    last_chained f l.initial.last l.bytes ≡ last_of l.last (chained f l.last (drop l.i (list_states l.bytes)))
