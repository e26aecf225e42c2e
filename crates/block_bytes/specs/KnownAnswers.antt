-- Known answers for blocks as states, as the independent program prints them (each comment begins its line), and document 01's cases 7, 8 and 11
-- through the bytes of a block.
use Rattle.std.specs.Prelude.{List, [], ◌∷◌, ℕ}
use Rattle.basics.specs.Cases.{Case, ◌is◌, threes}
use Rattle.layers.specs.State.{State, at}
use Rattle.layers.specs.Layers.{permuted, diffused}
use Rattle.block_bytes.specs.Blocks.{state_of, bytes_of}

-- a row of a state
abbrev pub row : State → ℕ → List ℕ
row a i = at a i 0 ∷ at a i 1 ∷ at a i 2 ∷ at a i 3 ∷ []

-- the bytes 00 to 0B
abbrev pub counting : List ℕ
counting = threes (0x000102 ∷ 0x030405 ∷ 0x060708 ∷ 0x090A0B ∷ [])

unfoldable pub known_answers : List Case
known_answers =
    -- block 000102030405060708090a0b
    (row (state_of counting) 0 is (0x00 ∷ 0x03 ∷ 0x06 ∷ 0x09 ∷ []))
    ∷ (row (state_of counting) 1 is (0x01 ∷ 0x04 ∷ 0x07 ∷ 0x0A ∷ []))
    ∷ (row (state_of counting) 2 is (0x02 ∷ 0x05 ∷ 0x08 ∷ 0x0B ∷ []))
    -- document 01, cases 7 and 8
    ∷ (bytes_of (diffused (state_of (threes (0x010000 ∷ 0x030406 ∷ 0x000000 ∷ 0x010000 ∷ []))))
    is threes (0x030406 ∷ 0x010000 ∷ 0x000000 ∷ 0x030406 ∷ []))
    -- document 01, case 11
    ∷ (bytes_of (permuted (state_of counting)) is threes (0x000408 ∷ 0x03010B ∷ 0x060A02 ∷ 0x090705 ∷ []))
    ∷ []
