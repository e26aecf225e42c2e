-- A term of each type of specs/Claims.antt.
use mathlib.Core.Path.{◌≡◌, refl, sym, ap, ap₂, ◌∙◌}
use Prim.Native.Nat.{ℕ, zero, suc, ◌+◌, ◌*◌, ◌/◌, ◌%◌, ◌^◌, ◌<◌}
use native.Mathlib.Nat.{mul_assoc, mul_comm, zero-mul}
use lib.Bits.{bit_xor}
use Rattle.field.specs.Field.{◌⊕◌, coefficient, product, modulus, reduced, times}
use Rattle.field.specs.Claims.{TimesIsRemainder}
use Rattle.field.proofs.Addition.{digit_cases, bit, assoc, comm, left_comm, self, zero_right, shifted}
use Rattle.field.proofs.Linear.{product-right}
use Rattle.field.proofs.Multiplication.{times_byte}

-- ---- the remainder

-- a product by a multiple of a power of two
product_shifted : (n k a b : ℕ) → product n a (b * 2 ^ k) ≡ product n a b * 2 ^ k
unfolding product
product_shifted zero k a b = sym (zero-mul (2 ^ k))
product_shifted (suc n) k a b =
    ap₂ bit_xor (sym (mul_assoc (a % 2) b (2 ^ k)))
    (ap (product n (a / 2)) (mul_assoc b (2 ^ k) 2 ∙ ap (λ (x : ℕ). b * x) (mul_comm (2 ^ k) 2) ∙ sym (mul_assoc b 2 (2 ^ k)))
    ∙ product_shifted n k (a / 2) (b * 2))
    ∙ sym (shifted k (a % 2 * b) (product n (a / 2) (b * 2)))

-- the modulus times a digit
modulus_digit : (d : ℕ) → d < 2 → product 9 modulus d ≡ d * modulus
unfolding product
modulus_digit = digit_cases (λ (d : ℕ). product 9 modulus d ≡ d * modulus) refl refl

taken_away : (n d : ℕ) → d < 2 → product 9 modulus (d * 2 ^ n) ≡ d * (modulus * 2 ^ n)
taken_away n d h = product_shifted 9 n modulus d ∙ ap (λ (x : ℕ). x * 2 ^ n) (modulus_digit d h) ∙ mul_assoc d modulus (2 ^ n)

none : (a : ℕ) → product 9 modulus 0 ⊕ a ≡ a
unfolding product
none a = refl

-- what a step of the division takes away is a multiple of the modulus
remainder : (n a : ℕ) → (q : ℕ) × (a ≡ product 9 modulus q ⊕ reduced n a)
unfolding reduced
remainder zero a = (0, sym (none a))
remainder (suc n) a =
    let x = coefficient a (8 + n) * (modulus * 2 ^ n) in
    let r = remainder n (a ⊕ x) in
    let m = coefficient a (8 + n) * 2 ^ n in (
      r.0 ⊕ m,
      sym (comm x (a ⊕ x) ∙ assoc a x x ∙ ap (bit_xor a) (self x) ∙ zero_right a)
          ∙ ap (bit_xor x) r.1
          ∙ left_comm x (product 9 modulus r.0) (reduced n (a ⊕ x))
          ∙ sym (assoc (product 9 modulus r.0) x (reduced n (a ⊕ x)))
          ∙ ap (λ (y : ℕ). (product 9 modulus r.0 ⊕ y) ⊕ reduced n (a ⊕ x)) (sym (taken_away n (coefficient a (8 + n)) (bit (a / 2 ^ (8 + n)))))
          ∙ ap (λ (y : ℕ). y ⊕ reduced n (a ⊕ x)) (sym (product-right 9 modulus r.0 m)),
    )

pub times_is_remainder : TimesIsRemainder
unfolding TimesIsRemainder times
times_is_remainder a b ha hb = let r = remainder _ (product 8 a b) in record { quotient = r.0; divides = r.1; small = times_byte a b ha hb }
