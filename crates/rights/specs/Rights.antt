-- Rights: document 01, "Roll and grant"; request 1, "Looking before overwriting"; request 6, "Demoting without dropping".
use Rattle.std.specs.Prelude.{Bool, cond, ◌&&◌, ◌||◌, ℕ, eqb, leb}
use Rattle.rights.specs.declared.Right.{Right}
use Rattle.rights.specs.declared.Right.TheVariants.{Reading, Overwriting}

abbrev pub right_number : Right → ℕ
right_number Reading = 1
right_number Overwriting = 2

-- 1 reading, 2 overwriting
abbrev pub is_right : ℕ → Bool
is_right r = eqb r 1 || eqb r 2

-- what a grant's right covers, the one asked for being the second number: reading is covered by both, overwriting by overwriting alone. What is
-- no right covers nothing and is covered by nothing
unfoldable pub covers : ℕ → ℕ → Bool
covers granted asked = (eqb asked 1 && is_right granted) || (eqb asked 2 && eqb granted 2)

-- the highest right that a figure on the roll stands for: overwriting where it is 2, and reading only where it is any other
unfoldable pub highest : ℕ → ℕ
highest figure = cond (eqb figure 2) 2 1

-- the right asked for, which is the first number, is not above the highest that the figure stands for
unfoldable pub within_highest : ℕ → ℕ → Bool
within_highest asked figure = leb asked (highest figure)
