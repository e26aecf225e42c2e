-- Known answers for issuing: the order of refusals where two reasons hold together. The two reasons and the number given are the independent
-- program's, and its line is the comment; the input is ours.
use Rattle.std.specs.Prelude.{List, [], ◌∷◌, ℕ, replicate}
use Rattle.basics.specs.Cases.{Case, ◌is◌}
use Rattle.roll.specs.Roll.{empty_roll, with_entry}
use Rattle.issuing.specs.Issuing.{issue_number}

-- the issue of a grant for a size block with a right to contractor 7, who is in standing with this figure
abbrev pub issue_to7 : ℕ → ℕ → ℕ → List ℕ
issue_to7 figure size_block right =
    issue_number (replicate 12 0) 10 (with_entry empty_roll 7 record { count = 1; figure = figure }) 7 size_block right (replicate 12 0) ∷ []

-- and for a size block, to contractor 7 who may overwrite
abbrev pub issue_for : ℕ → List ℕ
issue_for size_block = issue_to7 2 size_block 2

unfoldable pub known_answers : List Case
known_answers =
    -- order issue 1 2
    ((issue_number (replicate 11 0) 12 empty_roll 7 300 2 (replicate 12 0) ∷ []) is (1 ∷ []))
    -- order issue 2 6
    ∷ ((issue_number (replicate 12 0) 12 empty_roll 0 300 2 (replicate 12 0) ∷ []) is (2 ∷ []))
    -- order issue 6 7
    ∷ ((issue_number (replicate 12 0) 10 empty_roll 0 300 3 (replicate 12 0) ∷ []) is (6 ∷ []))
    -- order issue 7 14
    ∷ ((issue_number (replicate 12 0) 10 empty_roll 7 0 3 (replicate 12 0) ∷ []) is (7 ∷ []))
    -- order issue 14 20
    ∷ ((issue_number (replicate 12 0) 10 empty_roll 7 0 2 (replicate 12 0) ∷ []) is (14 ∷ []))
    -- order issue 20 25
    ∷ ((issue_number (replicate 12 0) 10 empty_roll 7 300 2 (replicate 12 0) ∷ []) is (20 ∷ []))
    -- document 01's order line has 4 between 2 and 6; that program's issue has no output
    ∷ ((issue_number (replicate 12 0) 12 empty_roll 7 300 2 (replicate 11 0) ∷ []) is (2 ∷ []))
    ∷ ((issue_number (replicate 12 0) 10 empty_roll 0 300 2 (replicate 11 0) ∷ []) is (4 ∷ []))
    -- request 6: 25 where overwriting is asked for, unless the figure is 2
    ∷ (issue_to7 1 300 2 is (25 ∷ []))
    ∷ (issue_to7 2 300 2 is (0 ∷ []))
    ∷ (issue_to7 3 300 2 is (25 ∷ []))
    ∷ (issue_to7 3 300 1 is (0 ∷ []))
    ∷ []

-- request 7: which size blocks are refused, whatever their lowest bytes are; and 14 with each other reason
unfoldable pub zero_answers : List Case
zero_answers =
    -- sized issue 0
    (issue_for 0 is (14 ∷ []))
    -- sized issue 1
    ∷ (issue_for 1 is (0 ∷ []))
    -- sized issue 256
    ∷ (issue_for 256 is (0 ∷ []))
    -- sized issue 65536
    ∷ (issue_for 65536 is (0 ∷ []))
    -- sized issue 16777216
    ∷ (issue_for 16777216 is (0 ∷ []))
    -- sized issue 4294967295
    ∷ (issue_for 4294967295 is (0 ∷ []))
    -- both issue 1 14
    ∷ ((issue_number (replicate 11 0) 10 empty_roll 7 0 2 (replicate 12 0) ∷ []) is (1 ∷ []))
    -- both issue 2 14
    ∷ ((issue_number (replicate 12 0) 12 empty_roll 7 0 2 (replicate 12 0) ∷ []) is (2 ∷ []))
    -- both issue 6 14
    ∷ ((issue_number (replicate 12 0) 10 empty_roll 0 0 2 (replicate 12 0) ∷ []) is (6 ∷ []))
    -- both issue 7 14
    ∷ ((issue_number (replicate 12 0) 10 empty_roll 7 0 3 (replicate 12 0) ∷ []) is (7 ∷ []))
    -- both issue 14 20
    ∷ ((issue_number (replicate 12 0) 10 empty_roll 7 0 1 (replicate 12 0) ∷ []) is (14 ∷ []))
    -- both issue 14 25
    ∷ (issue_to7 1 0 2 is (14 ∷ []))
    -- 4 comes before 14; that program's issue has no output
    ∷ ((issue_number (replicate 12 0) 10 empty_roll 7 0 2 (replicate 11 0) ∷ []) is (4 ∷ []))
    ∷ []
