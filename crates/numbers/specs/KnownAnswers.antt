-- Known answers for numbers in bytes, as the independent program prints them for rolls and grants. Each comment begins its line.
use Rattle.std.specs.Prelude.{List, [], ◌∷◌}
use Rattle.basics.specs.Cases.{Case, ◌is◌, joined}
use Rattle.numbers.specs.Numbers.{two_from, four_from, two_bytes, four_bytes}

unfoldable pub known_answers : List Case
known_answers =
    -- roll 01020304fffe0001
    ((two_from 0x01 0x02 ∷ two_from 0x03 0x04 ∷ two_from 0xFF 0xFE ∷ two_from 0x00 0x01 ∷ []) is (258 ∷ 772 ∷ 65534 ∷ 1 ∷ []))
    -- rollbytes 1 256 4660 65534
    ∷ (joined (two_bytes 1 ∷ two_bytes 256 ∷ two_bytes 4660 ∷ two_bytes 65534 ∷ [])
    is (0x00 ∷ 0x01 ∷ 0x01 ∷ 0x00 ∷ 0x12 ∷ 0x34 ∷ 0xFF ∷ 0xFE ∷ []))
    -- the size block in the line of a plain grant to contractor 200
    ∷ (four_bytes 16909060 is (0x01 ∷ 0x02 ∷ 0x03 ∷ 0x04 ∷ []))
    ∷ ((four_from 0x01 0x02 0x03 0x04 ∷ []) is (16909060 ∷ []))
    ∷ []
