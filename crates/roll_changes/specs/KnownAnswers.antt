-- Known answers for calls that change the roll: what is left of an entry, as the independent program prints it (each comment begins its line); and the
-- order of refusals where two reasons hold together, where the two reasons and the number given are that program's, and the input is ours.
use Rattle.std.specs.Prelude.{List, [], ◌∷◌, ℕ}
use Rattle.basics.specs.Cases.{Case, ◌is◌}
use Rattle.roll.specs.declared.Roll.{Roll}
use Rattle.roll.specs.Roll.{empty_roll, count_of, figure_of, with_entry}
use Rattle.roll_changes.specs.Changes.{enter_number, entered_roll, withdraw_number, withdrawn_roll, change_number, changed_roll}

-- an empty roll on which a contractor has this count and this figure
abbrev pub roll_with : ℕ → ℕ → ℕ → Roll
roll_with c count figure = with_entry empty_roll c record { count = count; figure = figure }

-- a call's number, and the contractor's entry after it
abbrev pub enter_of : ℕ → ℕ → ℕ → ℕ → List ℕ
enter_of c right count figure =
    let roll = roll_with c count figure in
    enter_number roll c right ∷ count_of (entered_roll roll c right) c ∷ figure_of (entered_roll roll c right) c ∷ []

abbrev pub withdraw_of : ℕ → ℕ → ℕ → List ℕ
withdraw_of c count figure =
    let roll = roll_with c count figure in
    withdraw_number roll c ∷ count_of (withdrawn_roll roll c) c ∷ figure_of (withdrawn_roll roll c) c ∷ []

abbrev pub change_of : ℕ → ℕ → ℕ → ℕ → List ℕ
change_of c right count figure =
    let roll = roll_with c count figure in
    change_number roll c right ∷ count_of (changed_roll roll c right) c ∷ figure_of (changed_roll roll c right) c ∷ []

unfoldable pub known_answers : List Case
known_answers =
    -- changed enter 7 1 0 1
    (enter_of 7 1 0 1 is (0 ∷ 1 ∷ 1 ∷ []))
    -- changed enter 7 2 0 1
    ∷ (enter_of 7 2 0 1 is (0 ∷ 1 ∷ 2 ∷ []))
    -- changed enter 7 1 2 255
    ∷ (enter_of 7 1 2 255 is (0 ∷ 3 ∷ 1 ∷ []))
    -- changed enter 7 2 2 255
    ∷ (enter_of 7 2 2 255 is (0 ∷ 3 ∷ 2 ∷ []))
    -- changed enter 7 0 2 255
    ∷ (enter_of 7 0 2 255 is (7 ∷ 2 ∷ 255 ∷ []))
    -- changed enter 7 3 2 255
    ∷ (enter_of 7 3 2 255 is (7 ∷ 2 ∷ 255 ∷ []))
    -- changed enter 7 2 1 255
    ∷ (enter_of 7 2 1 255 is (21 ∷ 1 ∷ 255 ∷ []))
    -- changed enter 7 2 65534 3
    ∷ (enter_of 7 2 65534 3 is (22 ∷ 65534 ∷ 3 ∷ []))
    -- changed enter 7 2 65535 3
    ∷ (enter_of 7 2 65535 3 is (22 ∷ 65535 ∷ 3 ∷ []))
    -- changed right 200 1 1 1
    ∷ (change_of 200 1 1 1 is (0 ∷ 1 ∷ 1 ∷ []))
    -- changed right 200 2 1 1
    ∷ (change_of 200 2 1 1 is (0 ∷ 1 ∷ 2 ∷ []))
    -- changed right 200 1 1 2
    ∷ (change_of 200 1 1 2 is (0 ∷ 1 ∷ 1 ∷ []))
    -- changed right 200 2 1 2
    ∷ (change_of 200 2 1 2 is (0 ∷ 1 ∷ 2 ∷ []))
    -- changed right 200 1 1 255
    ∷ (change_of 200 1 1 255 is (0 ∷ 1 ∷ 1 ∷ []))
    -- changed right 200 2 1 255
    ∷ (change_of 200 2 1 255 is (0 ∷ 1 ∷ 2 ∷ []))
    -- changed right 200 2 65533 1
    ∷ (change_of 200 2 65533 1 is (0 ∷ 65533 ∷ 2 ∷ []))
    -- changed right 200 0 1 3
    ∷ (change_of 200 0 1 3 is (7 ∷ 1 ∷ 3 ∷ []))
    -- changed right 200 3 1 2
    ∷ (change_of 200 3 1 2 is (7 ∷ 1 ∷ 2 ∷ []))
    -- changed right 200 2 0 3
    ∷ (change_of 200 2 0 3 is (20 ∷ 0 ∷ 3 ∷ []))
    -- changed right 200 2 2 3
    ∷ (change_of 200 2 2 3 is (20 ∷ 2 ∷ 3 ∷ []))
    -- changed right 200 2 65535 3
    ∷ (change_of 200 2 65535 3 is (20 ∷ 65535 ∷ 3 ∷ []))
    -- changed withdraw 1 - 1 2
    ∷ (withdraw_of 1 1 2 is (0 ∷ 2 ∷ 1 ∷ []))
    -- changed withdraw 1 - 1 255
    ∷ (withdraw_of 1 1 255 is (0 ∷ 2 ∷ 1 ∷ []))
    -- changed withdraw 1 - 65533 2
    ∷ (withdraw_of 1 65533 2 is (0 ∷ 65534 ∷ 1 ∷ []))
    -- changed withdraw 1 - 2 2
    ∷ (withdraw_of 1 2 2 is (20 ∷ 2 ∷ 2 ∷ []))
    -- order enter 6 7
    ∷ ((enter_number empty_roll 0 3 ∷ []) is (6 ∷ []))
    -- order enter 7 21
    ∷ ((enter_number (roll_with 7 1 1) 7 3 ∷ []) is (7 ∷ []))
    -- order enter 7 22
    ∷ ((enter_number (roll_with 7 65534 1) 7 3 ∷ []) is (7 ∷ []))
    -- order withdraw 6 20
    ∷ ((withdraw_number empty_roll 0 ∷ []) is (6 ∷ []))
    -- order right 6 7
    ∷ ((change_number empty_roll 0 3 ∷ []) is (6 ∷ []))
    -- order right 7 20
    ∷ ((change_number empty_roll 7 3 ∷ []) is (7 ∷ []))
    ∷ []
