-- Linear maps: those that keep sums. The product and the remainder are linear on all numbers, so two of them that agree at the
-- powers of two agree at every byte.
use mathlib.Core.Path.{◌≡◌, refl, sym, ap, ap₂, ◌∙◌}
use Prim.Native.Nat.{ℕ, zero, suc, ◌+◌, ◌*◌, ◌/◌, ◌%◌, ◌^◌, ◌<◌}
use native.Mathlib.Nat.{mod-lt, zero-mul, one-mul, pow-suc, div-lt_iff_lt-mul}
use native.Mathlib.Omega.{arith}
use mathlib.Core.Bool.{Bool}
use lib.Dec.{T, eqb, eqb→eq}
use lib.Arith.{lt-one}
use lib.Pow.{pow_pos, split}
use lib.Bits.{bit_xor, xor_mod, xor_shr, xor_self, xor_shifted}
use Rattle.field.specs.Field.{◌⊕◌, coefficient, product, modulus, reduced, times}
use Rattle.field.proofs.Computed.{all, passed}
use Rattle.field.proofs.Addition.{digit_cases, bit, exchange, digit_sum, scale_left, scale_right, shifted}

abbrev pub Linear : (ℕ → ℕ) → Type 0
Linear f = (x y : ℕ) → f (x ⊕ y) ≡ f x ⊕ f y

pub product-right : (n a : ℕ) → Linear (product n a)
unfolding product
product-right zero a x y = refl
product-right (suc n) a x y =
    ap₂ bit_xor (scale_right x y (a % 2) (bit a)) (ap (product n (a / 2)) (shifted 1 x y) ∙ product-right n (a / 2) (x * 2) (y * 2))
    ∙ exchange (a % 2 * x) (a % 2 * y) (product n (a / 2) (x * 2)) (product n (a / 2) (y * 2))

pub product-left : (n b : ℕ) → Linear (λ a. product n a b)
unfolding product
product-left zero b x y = refl
product-left (suc n) b x y =
    ap₂ bit_xor (ap (λ (d : ℕ). d * b) (xor_mod x y 1) ∙ scale_left b (x % 2) (y % 2) (bit x) (bit y))
    (ap (λ (d : ℕ). product n d (b * 2)) (xor_shr x y 1) ∙ product-left n (b * 2) (x / 2) (y / 2))
    ∙ exchange (x % 2 * b) (y % 2 * b) (product n (x / 2) (b * 2)) (product n (y / 2) (b * 2))

pub reduced_linear : (n : ℕ) → Linear (reduced n)
unfolding reduced
reduced_linear zero x y = refl
reduced_linear (suc n) x y =
    ap (reduced n)
    (ap (bit_xor (x ⊕ y)) (ap (λ (d : ℕ). d * (modulus * 2 ^ n)) (digit_sum (8 + n) x y)
    ∙ scale_left (modulus * 2 ^ n) (coefficient x (8 + n)) (coefficient y (8 + n)) (bit (x / 2 ^ (8 + n))) (bit (y / 2 ^ (8 + n))))
    ∙ exchange x y (coefficient x (8 + n) * (modulus * 2 ^ n)) (coefficient y (8 + n) * (modulus * 2 ^ n)))
    ∙ reduced_linear n (x ⊕ (coefficient x (8 + n) * (modulus * 2 ^ n))) (y ⊕ (coefficient y (8 + n) * (modulus * 2 ^ n)))

pub times-right : (a : ℕ) → Linear (times a)
unfolding times
times-right a x y = ap (reduced _) (product-right 8 a x y) ∙ reduced_linear _ (product 8 a x) (product 8 a y)

pub times-left : (b : ℕ) → Linear (λ a. times a b)
unfolding times
times-left b x y = ap (reduced _) (product-left 8 b x y) ∙ reduced_linear _ (product 8 x b) (product 8 y b)

pub at_zero : (f : ℕ → ℕ) → Linear f → f 0 ≡ 0
at_zero f l = l 0 0 ∙ xor_self (f 0)

top_digit : (n x : ℕ) → x < 2 ^ suc n → x / 2 ^ n < 2
top_digit n x h = (div-lt_iff_lt-mul (pow_pos n)).1 (omega (arith, pow-suc 2 n))

parts : (n x : ℕ) → x ≡ (x / 2 ^ n * 2 ^ n) ⊕ (x % 2 ^ n)
parts n x = sym (split x n) ∙ sym (xor_shifted (x / 2 ^ n) n (x % 2 ^ n) (mod-lt x (pow_pos n)))

-- two linear maps that agree at the first n powers of two agree below the next
pub agree : (f g : ℕ → ℕ) → Linear f → Linear g
    → (n : ℕ) → ((k : ℕ) → k < n → f (2 ^ k) ≡ g (2 ^ k)) → (x : ℕ) → x < 2 ^ n → f x ≡ g x
agree f g lf lg zero h x hx = ap f (lt-one hx) ∙ at_zero f lf ∙ sym (at_zero g lg) ∙ ap g (sym (lt-one hx))
agree f g lf lg (suc n) h x hx =
    ap f (parts n x) ∙ lf (x / 2 ^ n * 2 ^ n) (x % 2 ^ n)
    ∙ ap₂ bit_xor
    (digit_cases (λ (d : ℕ). f (d * 2 ^ n) ≡ g (d * 2 ^ n))
    (ap f (zero-mul (2 ^ n)) ∙ at_zero f lf ∙ sym (at_zero g lg) ∙ ap g (sym (zero-mul (2 ^ n))))
    (ap f (one-mul (2 ^ n)) ∙ h n (omega arith) ∙ ap g (sym (one-mul (2 ^ n))))
    (x / 2 ^ n) (top_digit n x hx))
    (agree f g lf lg n (λ k hk. h k (omega arith)) (x % 2 ^ n) (mod-lt x (pow_pos n)))
    ∙ sym (lg (x / 2 ^ n * 2 ^ n) (x % 2 ^ n)) ∙ ap g (sym (parts n x))

-- so for bytes the test at the powers of two is enough
unfoldable pub same : (ℕ → ℕ) → (ℕ → ℕ) → Bool
same f g = all 8 (λ k. eqb (f (2 ^ k)) (g (2 ^ k)))

pub agree_bytes : (f g : ℕ → ℕ) → Linear f → Linear g → T (same f g) → (x : ℕ) → x < 256 → f x ≡ g x
unfolding same
agree_bytes f g lf lg t x h =
    agree f g lf lg 8 (λ k hk. eqb→eq (f (2 ^ k)) (g (2 ^ k)) (passed 8 (λ k. eqb (f (2 ^ k)) (g (2 ^ k))) t k hk)) x h
