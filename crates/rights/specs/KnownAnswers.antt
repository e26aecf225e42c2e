-- Known answers for what a right covers, and for what a figure on the roll allows, as the independent program prints them. Each comment begins its
-- line.
use Rattle.std.specs.Prelude.{List, [], ◌∷◌, ℕ}
use Rattle.basics.specs.Cases.{Case, ◌is◌, flag}
use Rattle.rights.specs.Rights.{covers, within_highest}

-- whether a right covers the one asked for: 1 or 0
abbrev pub covers_of : ℕ → ℕ → List ℕ
covers_of granted asked = flag (covers granted asked) ∷ []

-- whether the right asked for is not above the highest that a figure stands for: 1 or 0
abbrev pub within_of : ℕ → ℕ → List ℕ
within_of figure asked = flag (within_highest asked figure) ∷ []

unfoldable pub known_answers : List Case
known_answers =
    -- covers 0 0
    (covers_of 0 0 is (0 ∷ []))
    -- covers 0 1
    ∷ (covers_of 0 1 is (0 ∷ []))
    -- covers 0 2
    ∷ (covers_of 0 2 is (0 ∷ []))
    -- covers 0 3
    ∷ (covers_of 0 3 is (0 ∷ []))
    -- covers 1 0
    ∷ (covers_of 1 0 is (0 ∷ []))
    -- covers 1 1
    ∷ (covers_of 1 1 is (1 ∷ []))
    -- covers 1 2
    ∷ (covers_of 1 2 is (0 ∷ []))
    -- covers 1 3
    ∷ (covers_of 1 3 is (0 ∷ []))
    -- covers 2 0
    ∷ (covers_of 2 0 is (0 ∷ []))
    -- covers 2 1
    ∷ (covers_of 2 1 is (1 ∷ []))
    -- covers 2 2
    ∷ (covers_of 2 2 is (1 ∷ []))
    -- covers 2 3
    ∷ (covers_of 2 3 is (0 ∷ []))
    -- covers 3 0
    ∷ (covers_of 3 0 is (0 ∷ []))
    -- covers 3 1
    ∷ (covers_of 3 1 is (0 ∷ []))
    -- covers 3 2
    ∷ (covers_of 3 2 is (0 ∷ []))
    -- covers 3 3
    ∷ (covers_of 3 3 is (0 ∷ []))
    -- highest 0 1
    ∷ (within_of 0 1 is (1 ∷ []))
    -- highest 0 2
    ∷ (within_of 0 2 is (0 ∷ []))
    -- highest 1 1
    ∷ (within_of 1 1 is (1 ∷ []))
    -- highest 1 2
    ∷ (within_of 1 2 is (0 ∷ []))
    -- highest 2 1
    ∷ (within_of 2 1 is (1 ∷ []))
    -- highest 2 2
    ∷ (within_of 2 2 is (1 ∷ []))
    -- highest 3 1
    ∷ (within_of 3 1 is (1 ∷ []))
    -- highest 3 2
    ∷ (within_of 3 2 is (0 ∷ []))
    -- highest 255 1
    ∷ (within_of 255 1 is (1 ∷ []))
    -- highest 255 2
    ∷ (within_of 255 2 is (0 ∷ []))
    ∷ []
