-- Known answers for key sizes: paper 000, Table 2, as the independent program prints them. Each comment begins its line.
use Rattle.std.specs.Prelude.{List, [], ◌∷◌}
use Rattle.basics.specs.Cases.{Case, ◌is◌}
use Rattle.sizes.specs.Sizes.{t_of, least_rounds, most_rounds}

unfoldable pub known_answers : List Case
known_answers =
    -- limits 12
    ((least_rounds (t_of 12) ∷ most_rounds (t_of 12) ∷ []) is (10 ∷ 11 ∷ []))
    -- limits 18
    ∷ ((least_rounds (t_of 18) ∷ most_rounds (t_of 18) ∷ []) is (14 ∷ 17 ∷ []))
    -- limits 24
    ∷ ((least_rounds (t_of 24) ∷ most_rounds (t_of 24) ∷ []) is (18 ∷ 23 ∷ []))
    ∷ []
