-- Numbers read from the bytes that they were written as, and bytes from the numbers that they are.
use mathlib.Core.Path.{◌≡◌}
use mathlib.Core.List.{[], ◌∷◌}
use Prim.Native.Nat.{ℕ, ◌/◌, ◌%◌, ◌<◌}
use native.Mathlib.Omega.{arith}
use Rattle.std.proofs.lemmas.Nat.{from_be_bytes-to_be_bytes_4}
use Rattle.numbers.specs.Numbers.{two_from, four_from, four_bytes}

-- ---- a number from its bytes
pub two_again : (n : ℕ) → n < 65536 → two_from (n / 256 % 256) (n % 256) ≡ n
two_again n h = omega arith

pub four_again : (b : ℕ) → b < 4294967296 → four_from (b / 16777216 % 256) (b / 65536 % 256) (b / 256 % 256) (b % 256) ≡ b
four_again b h = omega (arith, from_be_bytes-to_be_bytes_4 b h)

-- ---- the bytes of a number made of bytes
pub high : (a b : ℕ) → a < 256 → b < 256 → two_from a b / 256 % 256 ≡ a
high a b ha hb = omega arith

pub low : (a b : ℕ) → b < 256 → two_from a b % 256 ≡ b
low a b hb = omega arith

pub four₀ : (a b c d : ℕ) → a < 256 → b < 256 → c < 256 → d < 256 → four_from a b c d / 16777216 % 256 ≡ a
four₀ a b c d ha hb hc hd = omega arith

pub four₁ : (a b c d : ℕ) → a < 256 → b < 256 → c < 256 → d < 256 → four_from a b c d / 65536 % 256 ≡ b
four₁ a b c d ha hb hc hd = omega arith

pub four₂ : (a b c d : ℕ) → c < 256 → d < 256 → four_from a b c d / 256 % 256 ≡ c
four₂ a b c d hc hd = omega arith

pub four₃ : (a b c d : ℕ) → d < 256 → four_from a b c d % 256 ≡ d
four₃ a b c d hd = omega arith

pub bytes_again : (a b c d : ℕ) → a < 256 → b < 256 → c < 256 → d < 256 → four_bytes (four_from a b c d) ≡ a ∷ b ∷ c ∷ d ∷ []
bytes_again a b c d ha hb hc hd k = four₀ a b c d ha hb hc hd k ∷ four₁ a b c d ha hb hc hd k ∷ four₂ a b c d hc hd k ∷ four₃ a b c d hd k ∷ []
