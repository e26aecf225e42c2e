-- A roll as hosts keep and lend it: document 01, "What the store calls", as request 6 amends it. In the C calls a roll that has not this length is
-- refused with 3.
use Rattle.std.specs.Prelude.{List, [], ◌∷◌, ◌++◌, ℕ, eqb, take, drop}
use Rattle.refusal.specs.Tries.{Try, ◌unless◌}
use Rattle.numbers.specs.Numbers.{two_from, two_bytes}
use Rattle.roll.specs.declared.Roll.{Roll}

-- the counts of contractors 1 to 200, two bytes each, big end first; then their rights, a byte each
abbrev pub roll_length : ℕ
roll_length = 600

abbrev pub counts_length : ℕ
counts_length = 400

unfoldable pub counts_of : List ℕ → List ℕ
counts_of [] = []
counts_of (a ∷ []) = []
counts_of (a ∷ b ∷ bs) = two_from a b ∷ counts_of bs

unfoldable pub roll_of : List ℕ → Roll
roll_of bytes = record { counts = counts_of (take counts_length bytes); rights = drop counts_length bytes }

-- and back: two bytes for each count, then the rights
unfoldable pub counts_bytes : List ℕ → List ℕ
counts_bytes [] = []
counts_bytes (n ∷ ns) = two_bytes n ++ counts_bytes ns

unfoldable pub roll_bytes : Roll → List ℕ
roll_bytes roll = counts_bytes roll.counts ++ roll.rights

-- so many bytes are a roll's
abbrev pub roll_tries : ℕ → List Try
roll_tries n = (3 unless eqb n roll_length) ∷ []
