-- Known answers for a grant's plain bytes, written and read, as the independent program prints them. Each comment begins its line.
use Rattle.std.specs.Prelude.{List, [], ◌∷◌, ℕ}
use Rattle.basics.specs.Cases.{Case, ◌is◌, threes}
use Rattle.grant.specs.Grants.{plain_grant, contractor_in, count_in, size_block_in, right_in}

-- a grant to contractor 200, who is not in standing on an empty roll, for reading size block 16,909,060
abbrev pub plain : List ℕ
plain = threes (0x00C812 ∷ 0x350102 ∷ 0x030401 ∷ 0x475244 ∷ [])

unfoldable pub known_answers : List Case
known_answers =
    -- plain 200 4661 16909060 1
    (plain_grant 200 4661 16909060 1 is threes (0x00C812 ∷ 0x350102 ∷ 0x030401 ∷ 0x475244 ∷ []))
    -- plain 7 1 300 2
    ∷ (plain_grant 7 1 300 2 is threes (0x000700 ∷ 0x010000 ∷ 0x012C02 ∷ 0x475244 ∷ []))
    -- and read again
    ∷ ((contractor_in plain ∷ count_in plain ∷ size_block_in plain ∷ right_in plain ∷ []) is (200 ∷ 4661 ∷ 16909060 ∷ 1 ∷ []))
    ∷ []
