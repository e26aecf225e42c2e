-- What entering, withdrawing and changing the highest right answer: document 01, "Roll and grant", and the order line "roll 6, then 20 to 22", as
-- request 6 amends them: entering tries 6, 7, 21, 22, withdrawing 6, 20, changing the right 6, 7, 20.
use Rattle.std.specs.Prelude.{Bool, not, List, [], ◌∷◌, ℕ, ◌+◌, ltb}
use Rattle.refusal.specs.Tries.{Try, ◌unless◌, first, answered}
use Rattle.rights.specs.Rights.{is_right}
use Rattle.roll.specs.declared.Roll.{Roll}
use Rattle.roll.specs.declared.Entry.{Entry}
use Rattle.roll.specs.Roll.{is_contractor, count_of, entry_of, in_standing, with_entry}

-- what holds the roll is tried first: 3 where that is not a whole one, which bytes that a host lends may not be, and a roll by value always is
abbrev pub with_whole : Bool → List Try → List Try
with_whole whole tries = (3 unless whole) ∷ tries

-- ---- enter a contractor, whose count is this, with a highest right
abbrev pub enter_tries : ℕ → ℕ → ℕ → List Try
enter_tries c right count =
    (6 unless is_contractor c)
    ∷ (7 unless is_right right)
    ∷ (21 unless not (in_standing count))
    ∷ (22 unless ltb count 65534)
    ∷ []

-- what becomes of the entry: 1 is added to the count, and the highest right is the one given
abbrev pub entered_entry : ℕ → Entry → Entry
entered_entry right entry = record { count = entry.count + 1; figure = right }

abbrev pub enter_number : Roll → ℕ → ℕ → ℕ
enter_number roll c right = first (enter_tries c right (count_of roll c))

unfoldable pub entered_roll : Roll → ℕ → ℕ → Roll
entered_roll roll c right = answered (enter_number roll c right) (with_entry roll c (entered_entry right (entry_of roll c))) roll

-- ---- withdraw a contractor, whose count is this
abbrev pub withdraw_tries : ℕ → ℕ → List Try
withdraw_tries c count = (6 unless is_contractor c) ∷ (20 unless in_standing count) ∷ []

-- 1 is added to the count, and the highest right is reading again
abbrev pub withdrawn_entry : Entry → Entry
withdrawn_entry entry = record { count = entry.count + 1; figure = 1 }

abbrev pub withdraw_number : Roll → ℕ → ℕ
withdraw_number roll c = first (withdraw_tries c (count_of roll c))

unfoldable pub withdrawn_roll : Roll → ℕ → Roll
withdrawn_roll roll c = answered (withdraw_number roll c) (with_entry roll c (withdrawn_entry (entry_of roll c))) roll

-- ---- change the highest right of a contractor, whose count is this
abbrev pub change_tries : ℕ → ℕ → ℕ → List Try
change_tries c right count = (6 unless is_contractor c) ∷ (7 unless is_right right) ∷ (20 unless in_standing count) ∷ []

-- the count stays, and the highest right is the one given, also where it is the one that was held
abbrev pub changed_entry : ℕ → Entry → Entry
changed_entry right entry = record { count = entry.count; figure = right }

abbrev pub change_number : Roll → ℕ → ℕ → ℕ
change_number roll c right = first (change_tries c right (count_of roll c))

unfoldable pub changed_roll : Roll → ℕ → ℕ → Roll
changed_roll roll c right = answered (change_number roll c right) (with_entry roll c (changed_entry right (entry_of roll c))) roll
