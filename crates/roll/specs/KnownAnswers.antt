-- Known answers for rolls: who is in standing, as the independent program prints it. Each comment begins its line.
use Rattle.std.specs.Prelude.{List, [], ◌∷◌}
use Rattle.basics.specs.Cases.{Case, ◌is◌, flag}
use Rattle.roll.specs.Roll.{in_standing}

unfoldable pub known_answers : List Case
known_answers =
    -- standing 0
    ((flag (in_standing 0) ∷ []) is (0 ∷ []))
    -- standing 1
    ∷ ((flag (in_standing 1) ∷ []) is (1 ∷ []))
    -- standing 2
    ∷ ((flag (in_standing 2) ∷ []) is (0 ∷ []))
    -- standing 65532
    ∷ ((flag (in_standing 65532) ∷ []) is (0 ∷ []))
    -- standing 65533
    ∷ ((flag (in_standing 65533) ∷ []) is (1 ∷ []))
    -- standing 65534
    ∷ ((flag (in_standing 65534) ∷ []) is (0 ∷ []))
    -- standing 65535
    ∷ ((flag (in_standing 65535) ∷ []) is (0 ∷ []))
    ∷ []
