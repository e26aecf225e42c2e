-- Numbers in bytes, big end first: document 01, "Roll and grant". For rolls, grants and pages alike, and for the rows of a state.
use Rattle.std.specs.Prelude.{List, [], ◌∷◌, ℕ, ◌+◌, ◌*◌, ◌/◌, ◌%◌}

-- a number of two bytes, and one of four
abbrev pub two_from : ℕ → ℕ → ℕ
two_from a b = 256 * a + b

abbrev pub four_from : ℕ → ℕ → ℕ → ℕ → ℕ
four_from a b c d = 16777216 * a + (65536 * b + (256 * c + d))

-- the bytes of a number of two bytes, and of one of four
abbrev pub two_bytes : ℕ → List ℕ
two_bytes n = n / 256 % 256 ∷ n % 256 ∷ []

abbrev pub four_bytes : ℕ → List ℕ
four_bytes n = n / 16777216 % 256 ∷ n / 65536 % 256 ∷ n / 256 % 256 ∷ n % 256 ∷ []
