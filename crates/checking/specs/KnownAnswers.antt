-- Known answers for checking: the order of refusals where two reasons hold together, as far as the input goes. The two reasons and the number
-- given are the independent program's, and its line is the comment; the input is ours.
use Rattle.std.specs.Prelude.{List, [], ◌∷◌, replicate}
use Rattle.basics.specs.Cases.{Case, ◌is◌}
use Rattle.roll.specs.Roll.{empty_roll}
use Rattle.checking.specs.Checking.{check_number}

unfoldable pub known_answers : List Case
known_answers =
    -- order check 1 2
    ((check_number (replicate 11 0) 12 empty_roll (replicate 12 0) 300 2 ∷ []) is (1 ∷ []))
    -- order check 2 3
    ∷ ((check_number (replicate 12 0) 12 empty_roll (replicate 11 0) 300 2 ∷ []) is (2 ∷ []))
    -- order check 3 7
    ∷ ((check_number (replicate 12 0) 10 empty_roll (replicate 11 0) 300 3 ∷ []) is (3 ∷ []))
    -- order check 7 14
    ∷ ((check_number (replicate 12 0) 10 empty_roll (replicate 12 0) 0 3 ∷ []) is (7 ∷ []))
    -- order check 14 8
    ∷ ((check_number (replicate 12 0) 10 empty_roll (replicate 12 0) 0 2 ∷ []) is (14 ∷ []))
    ∷ []
