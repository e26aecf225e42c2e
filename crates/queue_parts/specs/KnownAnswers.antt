-- Known answers for queues: how long one may be, as the independent program prints it (each comment begins its line); and the order of refusals
-- of the whole call where two reasons hold together, where the two reasons and the number given are that program's, and the input is ours.
use Rattle.std.specs.Prelude.{true, false, List, [], ◌∷◌, ℕ}
use Rattle.basics.specs.Cases.{Case, ◌is◌, flag}
use Rattle.refusal.specs.Tries.{first}
use Rattle.queue_parts.specs.QueueParts.{queue_length, queue_input_tries}

-- a queue of one grant, asked for a size block
abbrev pub queue_for : ℕ → List ℕ
queue_for size_block = first (queue_input_tries 12 10 (queue_length 12) 12 1 size_block 2) ∷ []

unfoldable pub known_answers : List Case
known_answers =
    -- queued 0
    ((flag (queue_length 0) ∷ []) is (1 ∷ []))
    -- queued 1
    ∷ ((flag (queue_length 1) ∷ []) is (0 ∷ []))
    -- queued 11
    ∷ ((flag (queue_length 11) ∷ []) is (0 ∷ []))
    -- queued 12
    ∷ ((flag (queue_length 12) ∷ []) is (1 ∷ []))
    -- queued 13
    ∷ ((flag (queue_length 13) ∷ []) is (0 ∷ []))
    -- queued 24
    ∷ ((flag (queue_length 24) ∷ []) is (1 ∷ []))
    -- queued 756
    ∷ ((flag (queue_length 756) ∷ []) is (1 ∷ []))
    -- queued 767
    ∷ ((flag (queue_length 767) ∷ []) is (0 ∷ []))
    -- queued 768
    ∷ ((flag (queue_length 768) ∷ []) is (1 ∷ []))
    -- queued 769
    ∷ ((flag (queue_length 769) ∷ []) is (0 ∷ []))
    -- queued 780
    ∷ ((flag (queue_length 780) ∷ []) is (0 ∷ []))
    -- order queue 1 2
    ∷ ((first (queue_input_tries 11 12 true 24 2 300 2) ∷ []) is (1 ∷ []))
    -- order queue 2 3
    ∷ ((first (queue_input_tries 12 12 false 25 2 300 2) ∷ []) is (2 ∷ []))
    -- order queue 3 4
    ∷ ((first (queue_input_tries 12 10 (queue_length 780) 780 64 300 2) ∷ []) is (3 ∷ []))
    -- order queue 4 7
    ∷ ((first (queue_input_tries 12 10 (queue_length 24) 24 1 300 3) ∷ []) is (4 ∷ []))
    -- order queue 7 14
    ∷ ((first (queue_input_tries 12 10 (queue_length 24) 24 2 0 3) ∷ []) is (7 ∷ []))
    -- none where there is just room enough; and 7 and 14 where there is no grant at all
    ∷ ((first (queue_input_tries 12 10 (queue_length 24) 24 2 300 2) ∷ []) is (0 ∷ []))
    ∷ ((first (queue_input_tries 12 10 (queue_length 0) 0 0 300 3) ∷ []) is (7 ∷ []))
    ∷ ((first (queue_input_tries 12 10 (queue_length 0) 0 0 0 2) ∷ []) is (14 ∷ []))
    ∷ []

-- request 7: which size blocks are refused, whatever their lowest bytes are; and 14 with each other reason. Reasons that are found in the grants come
-- after it, whatever grants they are
unfoldable pub zero_answers : List Case
zero_answers =
    -- sized queue 0
    (queue_for 0 is (14 ∷ []))
    -- sized queue 1
    ∷ (queue_for 1 is (0 ∷ []))
    -- sized queue 256
    ∷ (queue_for 256 is (0 ∷ []))
    -- sized queue 65536
    ∷ (queue_for 65536 is (0 ∷ []))
    -- sized queue 16777216
    ∷ (queue_for 16777216 is (0 ∷ []))
    -- sized queue 4294967295
    ∷ (queue_for 4294967295 is (0 ∷ []))
    -- both queue 1 14
    ∷ ((first (queue_input_tries 11 10 (queue_length 12) 12 1 0 2) ∷ []) is (1 ∷ []))
    -- both queue 2 14
    ∷ ((first (queue_input_tries 12 12 (queue_length 12) 12 1 0 2) ∷ []) is (2 ∷ []))
    -- both queue 3 14
    ∷ ((first (queue_input_tries 12 10 (queue_length 13) 13 1 0 2) ∷ []) is (3 ∷ []))
    -- both queue 4 14
    ∷ ((first (queue_input_tries 12 10 (queue_length 12) 12 0 0 2) ∷ []) is (4 ∷ []))
    -- both queue 7 14
    ∷ ((first (queue_input_tries 12 10 (queue_length 12) 12 1 0 3) ∷ []) is (7 ∷ []))
    -- both queue 14 8
    ∷ (queue_for 0 is (14 ∷ []))
    -- both queue 14 9
    ∷ (queue_for 0 is (14 ∷ []))
    -- both queue 14 10
    ∷ (queue_for 0 is (14 ∷ []))
    -- both queue 14 20
    ∷ (queue_for 0 is (14 ∷ []))
    -- both queue 14 23
    ∷ (queue_for 0 is (14 ∷ []))
    -- both queue 14 25
    ∷ (queue_for 0 is (14 ∷ []))
    ∷ []
