-- The roll of contractors: document 01, "Roll and grant"; request 6, "Demoting without dropping". Its record, declared in src/, has for each
-- contractor 1 to 200 a 16-bit count (the epoch of the contractor's standing) and beside it a figure for the highest right.
use Rattle.std.specs.Prelude.{Bool, cond, ◌&&◌, ℕ, ◌-◌, ◌%◌, eqb, ltb, leb, get_or, set, replicate}
use Rattle.roll.specs.declared.Roll.{Roll}
use Rattle.roll.specs.declared.Entry.{Entry}

-- all counts are zero at first, and all figures 1
unfoldable pub empty_roll : Roll
empty_roll = record { counts = replicate 200 0; rights = replicate 200 1 }

-- contractors are numbered 1 to 200
abbrev pub is_contractor : ℕ → Bool
is_contractor c = leb 1 c && leb c 200

-- a contractor's count, and the figure for their highest right; 0 for a number that is nobody's
unfoldable pub count_of : Roll → ℕ → ℕ
count_of roll c = cond (is_contractor c) (get_or roll.counts (c - 1) 0) 0

unfoldable pub figure_of : Roll → ℕ → ℕ
figure_of roll c = cond (is_contractor c) (get_or roll.rights (c - 1) 0) 0

-- both, which are the contractor's entry
abbrev pub entry_of : Roll → ℕ → Entry
entry_of roll c = record { count = count_of roll c; figure = figure_of roll c }

-- in standing exactly when the count is odd and below 65,535
unfoldable pub in_standing : ℕ → Bool
in_standing n = eqb (n % 2) 1 && ltb n 65535

-- the roll with another entry for a contractor. It is asked for contractors alone: 0 would be taken for contractor 1
unfoldable pub with_entry : Roll → ℕ → Entry → Roll
with_entry roll c entry = record { counts = set roll.counts (c - 1) entry.count; rights = set roll.rights (c - 1) entry.figure }
