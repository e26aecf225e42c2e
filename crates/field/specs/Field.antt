-- Bytes as polynomials over two elements: document 01, "The layers", Field; paper 000, section 2.1.
-- A polynomial is the number whose binary digit k is the coefficient of degree k: 14D is x^8 + x^6 + x^3 + x^2 + 1.
use Rattle.std.specs.Prelude.{ℕ, zero, suc, ◌+◌, ◌*◌, ◌/◌, ◌%◌, ◌^◌}
use Rattle.std.specs.Int.Bits.{bit_xor}

infixl 60 ◌⊕◌
-- addition is exclusive or
abbrev pub ◌⊕◌ : ℕ → ℕ → ℕ
◌⊕◌ a b = bit_xor a b

-- the coefficient of degree k
abbrev pub coefficient : ℕ → ℕ → ℕ
coefficient a k = a / 2 ^ k % 2

-- the product of two polynomials, not reduced; the first has a degree below n
unfoldable pub product : ℕ → ℕ → ℕ → ℕ
product zero a b = 0
product (suc n) a b = (a % 2 * b) ⊕ product n (a / 2) (b * 2)

-- the polynomial by which products are reduced
abbrev pub modulus : ℕ
modulus = 0x14D

-- what division by the modulus leaves of a polynomial of a degree below 8 + n: long division, from the highest degree down
unfoldable pub reduced : ℕ → ℕ → ℕ
reduced zero a = a
reduced (suc n) a = reduced n (a ⊕ (coefficient a (8 + n) * (modulus * 2 ^ n)))

-- multiplication of two bytes, whose product has a degree below 15. On larger numbers it is defined but is no multiplication
unfoldable pub times : ℕ → ℕ → ℕ
times a b = reduced 7 (product 8 a b)

-- the constant c, a primitive cube root of unity
abbrev pub cube_root : ℕ
cube_root = 0x1C
