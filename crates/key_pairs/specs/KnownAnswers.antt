-- Known answers for the two keys of a page, as the independent program prints them. Each comment begins its line.
use Rattle.std.specs.Prelude.{List, [], ◌∷◌, ◌++◌, ℕ}
use Rattle.basics.specs.Cases.{Case, ◌is◌, flag, threes}
use Rattle.key_pairs.specs.KeyPairs.{are_pair}

abbrev pub pair_key12 : List ℕ
pair_key12 = threes (0x0F1E2D ∷ 0x3C4B5A ∷ 0x697887 ∷ 0x96A5B4 ∷ [])

abbrev pub pair_key18 : List ℕ
pair_key18 = threes (0x0F1E2D ∷ 0x3C4B5A ∷ 0x697887 ∷ 0x96A5B4 ∷ 0xC3D2E1 ∷ 0xF00112 ∷ [])

unfoldable pub known_answers : List Case
known_answers =
    -- pair 0f1e2d3c4b5a69788796a5b4 0f1e2d3c4b5a69788796a5b4
    ((flag (are_pair pair_key12 pair_key12) ∷ []) is (0 ∷ []))
    -- pair 0f1e2d3c4b5a69788796a5b4 0f1e2d3c4b5a69788796a5b5
    ∷ ((flag (are_pair pair_key12 (threes (0x0F1E2D ∷ 0x3C4B5A ∷ 0x697887 ∷ 0x96A5B5 ∷ []))) ∷ []) is (1 ∷ []))
    -- pair 0f1e2d3c4b5a69788796a5b4 1f1e2d3c4b5a69788796a5b4
    ∷ ((flag (are_pair pair_key12 (threes (0x1F1E2D ∷ 0x3C4B5A ∷ 0x697887 ∷ 0x96A5B4 ∷ []))) ∷ []) is (1 ∷ []))
    -- pair 0f1e2d3c4b5a69788796a5b4 0f1e2d3c4b5a69788796a5b400
    ∷ ((flag (are_pair pair_key12 (pair_key12 ++ (0x00 ∷ []))) ∷ []) is (0 ∷ []))
    -- pair 0f1e2d3c4b5a69788796a5b4 0f1e2d3c4b5a69788796a5b4c3d2e1f00112
    ∷ ((flag (are_pair pair_key12 pair_key18) ∷ []) is (0 ∷ []))
    -- pair 0f1e2d3c4b5a69788796a5b4c3d2e1f00112 0f1e2d3c4b5a69788796a5b4
    ∷ ((flag (are_pair pair_key18 pair_key12) ∷ []) is (0 ∷ []))
    -- pair 0f1e2d3c4b5a69788796a5b4c3d2e1f00112 0f1e2d3c4b5a69788796a5b4c3d2e1f00113
    ∷ ((flag (are_pair pair_key18 (threes (0x0F1E2D ∷ 0x3C4B5A ∷ 0x697887 ∷ 0x96A5B4 ∷ 0xC3D2E1 ∷ 0xF00113 ∷ []))) ∷ []) is (1 ∷ []))
    -- pair 0f1e2d3c4b5a69788796a5b400 0f1e2d3c4b5a69788796a5b401
    ∷ ((flag (are_pair (pair_key12 ++ (0x00 ∷ [])) (pair_key12 ++ (0x01 ∷ []))) ∷ []) is (0 ∷ []))
    -- pair - -
    ∷ ((flag (are_pair [] []) ∷ []) is (0 ∷ []))
    ∷ []
