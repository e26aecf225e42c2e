-- Known answers for rolls in bytes: counts from bytes and back, where an entry lies, and the empty roll, as the independent program prints them. Each
-- comment begins its line.
use Rattle.std.specs.Prelude.{List, [], ◌∷◌, ℕ, zero, suc, ◌+◌, ◌-◌, ◌*◌, ◌%◌, length, get_or}
use Rattle.basics.specs.Cases.{Case, ◌is◌}
use Rattle.rights.specs.Rights.{highest}
use Rattle.roll.specs.Roll.{empty_roll, count_of, figure_of, with_entry}
use Rattle.roll_bytes.specs.RollBytes.{counts_of, roll_of, counts_bytes, roll_bytes}

abbrev pub four_counts : List ℕ
four_counts = 0x01 ∷ 0x02 ∷ 0x03 ∷ 0x04 ∷ 0xFF ∷ 0xFE ∷ 0x00 ∷ 0x01 ∷ []

-- n bytes, of which byte i is i modulo 251, from byte i on
unfoldable pub counting_from : ℕ → ℕ → List ℕ
counting_from i zero = []
counting_from i (suc n) = i % 251 ∷ counting_from (suc i) n

-- a contractor's count, figure and highest right on the roll that 600 such bytes hold
abbrev pub entry_at : ℕ → List ℕ
entry_at c =
    let roll = roll_of (counting_from 0 600) in
    count_of roll c ∷ figure_of roll c ∷ highest (figure_of roll c) ∷ []

-- the bytes of a contractor's count and figure, in the bytes of an empty roll with that entry
abbrev pub placed : ℕ → ℕ → ℕ → List ℕ
placed c count figure =
    let bytes = roll_bytes (with_entry empty_roll c record { count = count; figure = figure }) in
    get_or bytes (2 * (c - 1)) 0 ∷ get_or bytes (2 * (c - 1) + 1) 0 ∷ get_or bytes (400 + c - 1) 0 ∷ []

-- the bytes of an empty roll at some places
abbrev pub empty_at : ℕ → ℕ → ℕ → ℕ → List ℕ
empty_at i j k l =
    let bytes = roll_bytes empty_roll in
    length bytes ∷ get_or bytes i 0 ∷ get_or bytes j 0 ∷ get_or bytes k 0 ∷ get_or bytes l 0 ∷ []

unfoldable pub known_answers : List Case
known_answers =
    -- roll 01020304fffe0001
    (counts_of four_counts is (258 ∷ 772 ∷ 65534 ∷ 1 ∷ []))
    -- rollbytes 1 256 4660 65534
    ∷ (counts_bytes (1 ∷ 256 ∷ 4660 ∷ 65534 ∷ []) is (0x00 ∷ 0x01 ∷ 0x01 ∷ 0x00 ∷ 0x12 ∷ 0x34 ∷ 0xFF ∷ 0xFE ∷ []))
    -- empty
    ∷ (empty_at 0 399 400 599 is (600 ∷ 0 ∷ 0 ∷ 1 ∷ 1 ∷ []))
    -- entry 1
    ∷ (entry_at 1 is (1 ∷ 149 ∷ 1 ∷ []))
    -- entry 2
    ∷ (entry_at 2 is (515 ∷ 150 ∷ 1 ∷ []))
    -- entry 105
    ∷ (entry_at 105 is (53457 ∷ 2 ∷ 2 ∷ []))
    -- entry 126
    ∷ (entry_at 126 is (64000 ∷ 23 ∷ 1 ∷ []))
    -- entry 200
    ∷ (entry_at 200 is (37780 ∷ 97 ∷ 1 ∷ []))
    -- placed 1 258 2
    ∷ (placed 1 258 2 is (1 ∷ 2 ∷ 2 ∷ []))
    -- placed 2 772 255
    ∷ (placed 2 772 255 is (3 ∷ 4 ∷ 255 ∷ []))
    -- placed 200 65534 2
    ∷ (placed 200 65534 2 is (255 ∷ 254 ∷ 2 ∷ []))
    ∷ []
