-- Key sizes: document 01, "Key sizes and rounds"; paper 000, section 3 and Table 2. A key has 6t bytes for t = 2, 3 or 4.
use Rattle.std.specs.Prelude.{Bool, ◌&&◌, ◌||◌, ℕ, ◌+◌, ◌-◌, ◌*◌, ◌/◌, ◌≤◌, eqb, leb}
use Rattle.sizes.specs.declared.KeySize.{KeySize}

-- the number of stages after which the schedule comes home
abbrev pub turn : ℕ → ℕ
turn t = 6 * t

-- the paper's text also has 4t - 2; its Table 2 decides
abbrev pub least_rounds : ℕ → ℕ
least_rounds t = 4 * t + 2

abbrev pub most_rounds : ℕ → ℕ
most_rounds t = 6 * t - 1

-- the row of the table for t
abbrev pub size_for : ℕ → KeySize
size_for t = record { turn = turn t; least = least_rounds t; most = most_rounds t }

-- 12, 18 or 24 bytes
abbrev pub key_length : ℕ → Bool
key_length n = eqb n 12 || (eqb n 18 || eqb n 24)

-- the t of a key of 6t bytes
abbrev pub t_of : ℕ → ℕ
t_of n = n / 6

-- the table has a row for a key of n bytes, and it allows this many rounds
abbrev pub rounds_allowed : ℕ → ℕ → Bool
rounds_allowed n rounds = key_length n && (leb (least_rounds (t_of n)) rounds && leb rounds (most_rounds (t_of n)))

-- a t of the table: 2, 3 or 4
pub record Sized (t : ℕ) : Type 0 where
  pub least : 2 ≤ t
  pub most : t ≤ 4
