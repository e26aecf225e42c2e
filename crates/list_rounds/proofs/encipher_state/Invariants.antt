-- `list_rounds::encipher_state` meets its contract. The invariant says what is done so far.
use mathlib.Core.Path.{◌≡◌}
use lib.ListN.{drop}
use Rattle.rounds.specs.Rounds.{rounds}
use Rattle.block_bytes.specs.Blocks.{list_states}
use Rattle.list_rounds.proofs.encipher_state.Given as goal

abbrev pub invariant-loop-r : goal.invariant-loop-r
invariant-loop-r l = rounds (drop l.r (list_states l.list)) l.state ≡ rounds (drop 1 (list_states l.list)) l.initial.state
