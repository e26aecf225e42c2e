-- What is claimed of the field. A term of each type stands in proofs/Claims.antt.
use Rattle.std.specs.Prelude.{◌≡◌, ℕ, ◌<◌}
use Rattle.field.specs.Field.{◌⊕◌, product, modulus, times}

-- multiplication of bytes is the remainder of their product by the modulus: the product is q times the modulus plus a polynomial of
-- degree below 8
pub record Remainder (a b : ℕ) : Type 0 where
  pub quotient : ℕ
  pub divides : product 8 a b ≡ product 9 modulus quotient ⊕ times a b
  pub small : times a b < 256

unfoldable pub TimesIsRemainder : Type 0
TimesIsRemainder = (a b : ℕ) → a < 256 → b < 256 → Remainder a b
