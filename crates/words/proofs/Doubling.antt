-- Shift and mask double each byte of a word: what is shown of one byte, carried to four.
use mathlib.Core.Path.{◌≡◌, sym, ap, ap₂, ◌∙◌, subst}
use Prim.Native.Nat.{ℕ, ◌*◌, ◌/◌, ◌%◌, ◌-◌, ◌^◌, ◌<◌}
use native.Mathlib.Omega.{arith}
use lib.Dec.{lit<}
use lib.Bits.{bit_and, bit_xor}
use Rattle.field.specs.Field.{times}
use Rattle.words.specs.Words.{word, byte_of, doubled, leaving, shifted_and_masked}
use Rattle.words.proofs.OneByte.{digit, shifted, brought, mask, four_masks, digit_128, digit_127, masked, shifted_byte, brought_byte, twice}
use Rattle.words.proofs.Lanes.{Bytes, same_bytes_lem, and_bytes, xor_bytes, again, word_below, byte_below}

-- ---- of four: twice a word; a word whose bytes are 128 or 0, less what it is shifted by 7; and a word that fits
two_times : (b : ℕ → ℕ) → word b * 2 ≡ word (λ j. b j * 2)
two_times b = omega arith

less_part : (b : ℕ → ℕ) → word (λ j. b j * 128) - word (λ j. b j * 128) / 128 ≡ word (λ j. b j * 127)
less_part b = omega arith

fits : (w : ℕ) → w < 2 ^ 32 → w % 2 ^ 32 ≡ w
fits w h = omega arith

leaving-is : (b : ℕ → ℕ) → Bytes b → leaving (word b) ≡ word (λ j. digit (b j) * 128)
leaving-is b h =
    and_bytes b (λ j. 128) h (λ j. lit< tt) ∙ same_bytes_lem {b = λ j. bit_and (b j) 128} {c = λ j. digit (b j) * 128} (λ j. masked (b j) (h j))

staying_is : (b : ℕ → ℕ) → Bytes b → bit_xor (word b) (leaving (word b)) * 2 ≡ word (λ j. shifted (b j))
staying_is b h =
    ap (λ (n : ℕ). bit_xor (word b) n * 2) (leaving-is b h)
    ∙ ap (λ (n : ℕ). n * 2) (xor_bytes b (λ j. digit (b j) * 128) h (λ j. digit_128 (b j) (h j)))
    ∙ two_times (λ j. bit_xor (b j) (digit (b j) * 128))

bringing_is : (b : ℕ → ℕ) → Bytes b → bit_and (leaving (word b) - leaving (word b) / 2 ^ 7) four_masks ≡ word (λ j. brought (b j))
bringing_is b h =
    ap (λ (n : ℕ). bit_and (n - n / 2 ^ 7) four_masks) (leaving-is b h)
    ∙ ap (λ (n : ℕ). bit_and n four_masks) (less_part (λ j. digit (b j)))
    ∙ and_bytes (λ j. digit (b j) * 127) (λ j. mask) (λ j. digit_127 (b j) (h j)) (λ j. lit< tt)

doubles_bytes : (b : ℕ → ℕ) → Bytes b → shifted_and_masked (word b) ≡ word (λ j. times 2 (b j))
doubles_bytes b h =
    ap₂ bit_xor (staying_is b h) (bringing_is b h)
    ∙ xor_bytes (λ j. shifted (b j)) (λ j. brought (b j)) (λ j. shifted_byte (b j) (h j)) (λ j. brought_byte (b j))
    ∙ same_bytes_lem {b = λ j. bit_xor (shifted (b j)) (brought (b j))} {c = λ j. times 2 (b j)} (λ j. twice (b j) (h j))

pub doubles : (w : ℕ) → w < 2 ^ 32 → shifted_and_masked w ≡ doubled w
doubles w h = ap shifted_and_masked (sym (again w h)) ∙ doubles_bytes (byte_of w) (byte_below w)

-- the code's shift keeps 32 digits, and no digit is lost by that
no_digit_lost : (b : ℕ → ℕ) → Bytes b → bit_xor (word b) (leaving (word b)) * 2 < 2 ^ 32
no_digit_lost b h = subst (λ (n : ℕ). n < 2 ^ 32) (sym (staying_is b h)) (word_below (λ j. shifted (b j)) (λ j. shifted_byte (b j) (h j)))

pub kept : (w : ℕ) → w < 2 ^ 32 → bit_xor w (leaving w) * 2 % 2 ^ 32 ≡ bit_xor w (leaving w) * 2
kept w h = fits (bit_xor w (leaving w) * 2)
    (subst (λ (n : ℕ). bit_xor n (leaving n) * 2 < 2 ^ 32) (again w h) (no_digit_lost (byte_of w) (byte_below w)))
