-- Of one byte: the digit that leaves it, what stays, and what the digit brings back. That shift and mask double it is a test of the 256.
use mathlib.Core.Path.{◌≡◌}
use Prim.Native.Nat.{ℕ, ◌*◌, ◌/◌, ◌<◌, ◌≤◌}
use native.Mathlib.Omega.{arith}
use lib.Dec.{eqb, eqb→eq, ltb, ltb→lt}
use lib.Bits.{bit_and, bit_xor, and_le_r}
use Rattle.field.specs.Field.{times, product, reduced}
use Rattle.field.proofs.Computed.{passed}

abbrev pub digit : ℕ → ℕ
digit x = x / 128

abbrev pub shifted : ℕ → ℕ
shifted x = bit_xor x (digit x * 128) * 2

-- what the mask takes, in one byte and in four
abbrev pub mask : ℕ
mask = 0x4D

abbrev pub four_masks : ℕ
four_masks = 0x4D4D4D4D

abbrev pub brought : ℕ → ℕ
brought x = bit_and (digit x * 127) mask

pub digit_128 : (x : ℕ) → x < 256 → digit x * 128 < 256
digit_128 x h = omega arith

pub digit_127 : (x : ℕ) → x < 256 → digit x * 127 < 256
digit_127 x h = omega arith

pub masked : (x : ℕ) → x < 256 → bit_and x 128 ≡ digit x * 128
masked x h = eqb→eq _ _ (passed 256 (λ x. eqb (bit_and x 128) (digit x * 128)) tt x h)

pub shifted_byte : (x : ℕ) → x < 256 → shifted x < 256
shifted_byte x h = ltb→lt (shifted x) 256 (passed 256 (λ x. ltb (shifted x) 256) tt x h)

pub brought_byte : (x : ℕ) → brought x < 256
brought_byte x = let h : brought x ≤ mask = and_le_r (digit x * 127) mask in omega arith

pub twice : (x : ℕ) → x < 256 → bit_xor (shifted x) (brought x) ≡ times 2 x
unfolding times product reduced
twice x h = eqb→eq _ _ (passed 256 (λ x. eqb (bit_xor (shifted x) (brought x)) (times 2 x)) tt x h)
