-- Four bytes in a word of 32 bits (request 4). Byte 0 is the highest, as in every number of four bytes here.
use Rattle.std.specs.Prelude.{ℕ, ◌*◌, ◌/◌, ◌-◌, ◌^◌, get_or}
use Rattle.std.specs.Int.Bits.{bit_and}
use Rattle.field.specs.Field.{◌⊕◌, times}
use Rattle.numbers.specs.Numbers.{four_from, four_bytes}

-- the word with b j for its byte j
abbrev pub word : (ℕ → ℕ) → ℕ
word b = four_from (b 0) (b 1) (b 2) (b 3)

-- byte j of a word
abbrev pub byte_of : ℕ → ℕ → ℕ
byte_of w j = get_or (four_bytes w) j 0

-- the word whose bytes are twice those of w, each by itself
abbrev pub doubled : ℕ → ℕ
doubled w = word (λ j. times 2 (byte_of w j))

-- the digits that leave their bytes where all are shifted by one
abbrev pub leaving : ℕ → ℕ
leaving w = bit_and w 0x80808080

-- `doubled` by shift and mask: the other digits are shifted, and where a digit left its byte, 4D is added in that byte (7F masked, which is 80 less 1)
abbrev pub shifted_and_masked : ℕ → ℕ
shifted_and_masked w = ((w ⊕ leaving w) * 2) ⊕ bit_and (leaving w - leaving w / 2 ^ 7) 0x4D4D4D4D
