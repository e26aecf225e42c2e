-- What only tells the prover something of the code: what the functions inside a queue's calls are handed, and what they give.
use Rattle.std.specs.Prelude.{true, ◌≡◌, List, ℕ, ◌≤◌}
use Rattle.list_rounds.specs.ListRounds.{list_length}
use Rattle.engine.specs.Engine.{engine_block}
use Rattle.roll.specs.declared.Roll.{Roll}
use Rattle.roll.specs.Roll.{entry_of}
use Rattle.grant.specs.Grants.{contractor_in}
use Rattle.judging.specs.Judging.{judged_number}
use Rattle.queue_parts.specs.QueueParts.{grants_in}

-- a list that the engine takes, and room for an answer to each grant
pub record Answerable (list grants answers : ℕ) : Type 0 where
  pub listed : list_length list ≡ true
  pub room : grants_in grants ≤ answers

-- the number of the verdict on a grant that is opened over a list
unfoldable pub number_over : List ℕ → Roll → ℕ → ℕ → List ℕ → ℕ
number_over list roll size_block right grant =
    judged_number (engine_block list grant) (entry_of roll (contractor_in (engine_block list grant))) size_block right
