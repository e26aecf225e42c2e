-- What checking a queue of grants on a roll answers: request 2, "The morning queue".
use Rattle.std.specs.Prelude.{Bool, ◌&&◌, List, ℕ, length}
use Rattle.rounds.specs.Rounds.{listed_from}
use Rattle.refusal.specs.Tries.{Try, first, written}
use Rattle.roll.specs.declared.Roll.{Roll}
use Rattle.checking.specs.Checking.{check_number}
use Rattle.queue_parts.specs.QueueParts.{queue_length, grants_in, grant_at, queue_input_tries}

-- one byte a grant: the number of its check, which is 0 where it opens
unfoldable pub queue_answers : List ℕ → ℕ → Roll → List ℕ → ℕ → ℕ → List ℕ
queue_answers key rounds roll grants size_block right =
    listed_from 0 (grants_in (length grants)) (λ i. check_number key rounds roll (grant_at grants i) size_block right)

-- what is tried of the whole call
abbrev pub queue_tries : List ℕ → ℕ → List ℕ → ℕ → ℕ → List ℕ → List Try
queue_tries key rounds grants size_block right out =
    queue_input_tries (length key) rounds (queue_length (length grants)) (length grants) (length out) size_block right

-- and where what holds the roll may not be a whole one: 3 is then tried of both lengths together
abbrev pub queue_tries_on : Bool → List ℕ → ℕ → List ℕ → ℕ → ℕ → List ℕ → List Try
queue_tries_on whole key rounds grants size_block right out =
    queue_input_tries (length key) rounds (whole && queue_length (length grants)) (length grants) (length out) size_block right

-- its number, and what the lent answers hold after it
abbrev pub queue_number : List ℕ → ℕ → List ℕ → ℕ → ℕ → List ℕ → ℕ
queue_number key rounds grants size_block right out = first (queue_tries key rounds grants size_block right out)

unfoldable pub queue_output : List ℕ → ℕ → Roll → List ℕ → ℕ → ℕ → List ℕ → List ℕ
queue_output key rounds roll grants size_block right out =
    written (queue_number key rounds grants size_block right out) (queue_answers key rounds roll grants size_block right) out
