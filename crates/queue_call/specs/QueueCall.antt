-- What the C call that checks a queue returns and writes: request 2, "The morning queue", on a roll's bytes.
use Rattle.std.specs.Prelude.{◌&&◌, List, ℕ, eqb, length}
use Rattle.refusal.specs.Tries.{Try, first, written}
use Rattle.roll_bytes.specs.RollBytes.{roll_length, roll_of}
use Rattle.queue_parts.specs.QueueParts.{queue_length, queue_input_tries}
use Rattle.queue.specs.Queue.{queue_answers}

-- the order line of the queue, with 3 for the roll or the grants
abbrev pub call_queue_tries : List ℕ → ℕ → List ℕ → List ℕ → ℕ → ℕ → List ℕ → List Try
call_queue_tries key rounds roll grants size_block right out =
    queue_input_tries (length key) rounds (eqb (length roll) roll_length && queue_length (length grants)) (length grants) (length out) size_block right

abbrev pub call_queue_number : List ℕ → ℕ → List ℕ → List ℕ → ℕ → ℕ → List ℕ → ℕ
call_queue_number key rounds roll grants size_block right out = first (call_queue_tries key rounds roll grants size_block right out)

-- what the lent answers hold after it: the checks are on the roll that the bytes hold
unfoldable pub call_queue_output : List ℕ → ℕ → List ℕ → List ℕ → ℕ → ℕ → List ℕ → List ℕ
call_queue_output key rounds roll grants size_block right out =
    written (call_queue_number key rounds roll grants size_block right out) (queue_answers key rounds (roll_of roll) grants size_block right) out
