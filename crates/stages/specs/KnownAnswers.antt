-- Known answers for key stages: stages 1 and 2 of a key of each size, and their subkeys, and the constants of steps, but for the closing sums, as
-- the independent program prints them. Each comment begins its line.
use Rattle.std.specs.Prelude.{List, [], ◌∷◌, ℕ}
use Rattle.basics.specs.Cases.{Case, ◌is◌, threes, joined}
use Rattle.stages.specs.Stages.{stage, step_constant, subkey_of}

-- keys in which no two bytes are equal
abbrev pub key_of12 : List ℕ
key_of12 = threes (0x0F1E2D ∷ 0x3C4B5A ∷ 0x697887 ∷ 0x96A5B4 ∷ [])

abbrev pub key_of18 : List ℕ
key_of18 = threes (0x0F1E2D ∷ 0x3C4B5A ∷ 0x697887 ∷ 0x96A5B4 ∷ 0xC3D2E1 ∷ 0xF00112 ∷ [])

abbrev pub key_of24 : List ℕ
key_of24 = threes (0x0F1E2D ∷ 0x3C4B5A ∷ 0x697887 ∷ 0x96A5B4 ∷ 0xC3D2E1 ∷ 0xF00112 ∷ 0x233445 ∷ 0x566770 ∷ [])

unfoldable pub known_answers : List Case
known_answers =
    -- stage 0f1e2d3c4b5a69788796a5b4 1
    (stage 2 key_of12 1 is threes (0xC33DC2 ∷ 0x3E2E7B ∷ 0x71926D ∷ 0x52AE37 ∷ []))
    ∷ (joined (subkey_of (stage 2 key_of12 1)) is threes (0x343DC2 ∷ 0x6C2E7B ∷ 0x65926D ∷ 0x0DAE37 ∷ []))
    -- stage 0f1e2d3c4b5a69788796a5b4 2
    ∷ (stage 2 key_of12 2 is threes (0x7DC3DA ∷ 0xAAD585 ∷ 0x9F9247 ∷ 0x052777 ∷ []))
    ∷ (joined (subkey_of (stage 2 key_of12 2)) is threes (0x3AC3DA ∷ 0xFED585 ∷ 0xCE9247 ∷ 0xD32777 ∷ []))
    -- stage 0f1e2d3c4b5a69788796a5b4c3d2e1f00112 1
    ∷ (stage 3 key_of18 1 is threes (0xCD336A ∷ 0x3E2E7B ∷ 0x71926D ∷ 0x7D4D18 ∷ 0xAB3A8F ∷ 0x81BC43 ∷ []))
    ∷ (joined (subkey_of (stage 3 key_of18 1)) is threes (0x3B336A ∷ 0x6C2E7B ∷ 0x65926D ∷ 0x3A4D18 ∷ []))
    -- stage 0f1e2d3c4b5a69788796a5b4c3d2e1f00112 2
    ∷ (stage 3 key_of18 2 is threes (0x53620F ∷ 0xA647BF ∷ 0xF894A2 ∷ 0x886334 ∷ 0x0F9531 ∷ 0x171AA6 ∷ []))
    ∷ (joined (subkey_of (stage 3 key_of18 2)) is threes (0x04620F ∷ 0x1747BF ∷ 0xCF94A2 ∷ 0x696334 ∷ []))
    -- stage 0f1e2d3c4b5a69788796a5b4c3d2e1f00112233445566770 1
    ∷ (stage 4 key_of24 1 is threes (0x0CF2C9 ∷ 0x3E2E7B ∷ 0x71926D ∷ 0x7D4D18 ∷ 0xAB3A8F ∷ 0x0E19CC ∷ 0x900673 ∷ 0xB5B0EB ∷ []))
    ∷ (joined (subkey_of (stage 4 key_of24 1)) is threes (0x70F2C9 ∷ 0x6C2E7B ∷ 0x65926D ∷ 0x3A4D18 ∷ []))
    -- stage 0f1e2d3c4b5a69788796a5b4c3d2e1f00112233445566770 2
    ∷ (stage 4 key_of24 2 is threes (0x3C4E8B ∷ 0xD1D18A ∷ 0x9B2A1C ∷ 0x32CA9D ∷ 0x31F3F2 ∷ 0x0258D1 ∷ 0x368CF0 ∷ 0x6D66E7 ∷ []))
    ∷ (joined (subkey_of (stage 4 key_of24 2)) is threes (0x7F4E8B ∷ 0x13D18A ∷ 0x232A1C ∷ 0x1DCA9D ∷ []))
    -- constant 12 0
    ∷ (step_constant 2 0 is threes (0x000000 ∷ 0x000000 ∷ 0x000000 ∷ 0x000000 ∷ []))
    -- constant 12 1
    ∷ (step_constant 2 1 is threes (0xBA0000 ∷ 0x540000 ∷ 0x2F0000 ∷ 0x740000 ∷ []))
    -- constant 12 11
    ∷ (step_constant 2 11 is threes (0xA50000 ∷ 0xCB0000 ∷ 0x6B0000 ∷ 0x950000 ∷ []))
    -- constant 12 13
    ∷ (step_constant 2 13 is threes (0x000000 ∷ 0x000000 ∷ 0x000000 ∷ 0x000000 ∷ []))
    -- constant 12 65
    ∷ (step_constant 2 65 is threes (0x000000 ∷ 0x000000 ∷ 0x000000 ∷ 0x000000 ∷ []))
    -- constant 18 0
    ∷ (step_constant 3 0 is threes (0x000000 ∷ 0x000000 ∷ 0x000000 ∷ 0x000000 ∷ 0x000000 ∷ 0x000000 ∷ []))
    -- constant 18 1
    ∷ (step_constant 3 1 is threes (0xBA0000 ∷ 0x540000 ∷ 0x2F0000 ∷ 0x740000 ∷ 0x530000 ∷ 0xD30000 ∷ []))
    -- constant 18 17
    ∷ (step_constant 3 17 is threes (0xB90000 ∷ 0x730000 ∷ 0xE90000 ∷ 0x350000 ∷ 0x550000 ∷ 0x710000 ∷ []))
    -- constant 18 19
    ∷ (step_constant 3 19 is threes (0x000000 ∷ 0x000000 ∷ 0x000000 ∷ 0x000000 ∷ 0x000000 ∷ 0x000000 ∷ []))
    -- constant 18 65
    ∷ (step_constant 3 65 is threes (0x000000 ∷ 0x000000 ∷ 0x000000 ∷ 0x000000 ∷ 0x000000 ∷ 0x000000 ∷ []))
    -- constant 24 0
    ∷ (step_constant 4 0 is threes (0x000000 ∷ 0x000000 ∷ 0x000000 ∷ 0x000000 ∷ 0x000000 ∷ 0x000000 ∷ 0x000000 ∷ 0x000000 ∷ []))
    -- constant 24 1
    ∷ (step_constant 4 1 is threes (0xBA0000 ∷ 0x540000 ∷ 0x2F0000 ∷ 0x740000 ∷ 0x530000 ∷ 0xD30000 ∷ 0xD20000 ∷ 0x4D0000 ∷ []))
    -- constant 24 23
    ∷ (step_constant 4 23 is threes (0xE10000 ∷ 0x2E0000 ∷ 0xE40000 ∷ 0xE00000 ∷ 0xEB0000 ∷ 0x900000 ∷ 0xA40000 ∷ 0x1E0000 ∷ []))
    -- constant 24 25
    ∷ (step_constant 4 25 is threes (0x000000 ∷ 0x000000 ∷ 0x000000 ∷ 0x000000 ∷ 0x000000 ∷ 0x000000 ∷ 0x000000 ∷ 0x000000 ∷ []))
    -- constant 24 65
    ∷ (step_constant 4 65 is threes (0x000000 ∷ 0x000000 ∷ 0x000000 ∷ 0x000000 ∷ 0x000000 ∷ 0x000000 ∷ 0x000000 ∷ 0x000000 ∷ []))
    ∷ []
