-- Known answers for the C call that walks a lent holder, as the independent program prints them. Each comment begins its line.
use Rattle.std.specs.Prelude.{List, [], ◌∷◌, ℕ, replicate}
use Rattle.basics.specs.Cases.{Case, ◌is◌}
use Rattle.holder_walk_call.specs.WalkCall.{walk_call_code}

-- a walk with a key of n bytes, all zero, from stage s to stage d
abbrev pub walked_of : ℕ → ℕ → ℕ → List ℕ
walked_of n s d = walk_call_code (n ∷ s ∷ replicate 24 0) d ∷ []

unfoldable pub known_answers : List Case
known_answers =
    -- walked 12 0 0
    (walked_of 12 0 0 is (1000 ∷ []))
    -- walked 12 0 6
    ∷ (walked_of 12 0 6 is (1006 ∷ []))
    -- walked 12 0 7
    ∷ (walked_of 12 0 7 is (2005 ∷ []))
    -- walked 12 11 0
    ∷ (walked_of 12 11 0 is (1001 ∷ []))
    -- walked 12 0 11
    ∷ (walked_of 12 0 11 is (2001 ∷ []))
    -- walked 18 0 9
    ∷ (walked_of 18 0 9 is (1009 ∷ []))
    -- walked 18 0 10
    ∷ (walked_of 18 0 10 is (2008 ∷ []))
    -- walked 24 0 12
    ∷ (walked_of 24 0 12 is (1012 ∷ []))
    -- walked 24 0 13
    ∷ (walked_of 24 0 13 is (2011 ∷ []))
    -- walked 24 23 1
    ∷ (walked_of 24 23 1 is (1002 ∷ []))
    -- walked 24 1 23
    ∷ (walked_of 24 1 23 is (2002 ∷ []))
    -- walked 12 0 12
    ∷ (walked_of 12 0 12 is (5 ∷ []))
    -- walked 18 0 18
    ∷ (walked_of 18 0 18 is (5 ∷ []))
    -- walked 24 0 24
    ∷ (walked_of 24 0 24 is (5 ∷ []))
    ∷ []
