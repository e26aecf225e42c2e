-- Known answers for walks: steps, and 0 for forward or 1 for back, as the independent program prints them. Each comment begins its line.
use Rattle.std.specs.Prelude.{List, [], ◌∷◌, ℕ}
use Rattle.basics.specs.Cases.{Case, ◌is◌}
use Rattle.sizes.specs.Sizes.{t_of}
use Rattle.holder.specs.declared.Way.{Way}
use Rattle.holder.specs.declared.Way.TheVariants.{Forward, Back}
use Rattle.holder_walk.specs.Walk.{ring_distance, way_to}

abbrev pub way_number : Way → ℕ
way_number Forward = 0
way_number Back = 1

-- a walk with a key of n bytes, from stage s to stage d
abbrev pub walk_of : ℕ → ℕ → ℕ → List ℕ
walk_of n s d = ring_distance (t_of n) s d ∷ way_number (way_to (t_of n) s d) ∷ []

unfoldable pub known_answers : List Case
known_answers =
    -- walk 12 0 0
    (walk_of 12 0 0 is (0 ∷ 0 ∷ []))
    -- walk 12 0 6
    ∷ (walk_of 12 0 6 is (6 ∷ 0 ∷ []))
    -- walk 12 0 7
    ∷ (walk_of 12 0 7 is (5 ∷ 1 ∷ []))
    -- walk 12 11 0
    ∷ (walk_of 12 11 0 is (1 ∷ 0 ∷ []))
    -- walk 12 0 11
    ∷ (walk_of 12 0 11 is (1 ∷ 1 ∷ []))
    -- walk 18 0 9
    ∷ (walk_of 18 0 9 is (9 ∷ 0 ∷ []))
    -- walk 18 0 10
    ∷ (walk_of 18 0 10 is (8 ∷ 1 ∷ []))
    -- walk 24 0 12
    ∷ (walk_of 24 0 12 is (12 ∷ 0 ∷ []))
    -- walk 24 0 13
    ∷ (walk_of 24 0 13 is (11 ∷ 1 ∷ []))
    -- walk 24 23 1
    ∷ (walk_of 24 23 1 is (2 ∷ 0 ∷ []))
    -- walk 24 1 23
    ∷ (walk_of 24 1 23 is (2 ∷ 1 ∷ []))
    ∷ []
