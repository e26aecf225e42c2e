-- The laws of addition, on all numbers.
use mathlib.Core.Path.{◌≡◌, refl, sym, ap, ap₂, ◌∙◌}
use Prim.Native.Nat.{ℕ, zero, suc, ◌+◌, ◌*◌, ◌/◌, ◌%◌, ◌^◌, ◌<◌}
use native.Mathlib.Nat.{le_of_suc-le-suc, not-suc-le-zero, mod-lt, zero-lt-suc, zero-mul, one-mul, add-zero}
use native.Mathlib.Omega.{arith}
use lib.Arith.{bin_ind, digits_mod}
use lib.Pow.{pow_pos}
use lib.Bits.{bit_xor, differ, xor_step, xor_shr, xor_mod, xor_comm, xor_self, xor_zero_r, xor_lt, xor_block}
use Rattle.field.specs.Field.{◌⊕◌}

-- a digit is 0 or 1
pub digit_cases {ℓ} : (P : ℕ → Type ℓ) → P 0 → P 1 → (n : ℕ) → n < 2 → P n
digit_cases P p q zero h = p
digit_cases P p q (suc zero) h = q
digit_cases P p q (suc (suc n)) h = absurd (not-suc-le-zero (le_of_suc-le-suc (le_of_suc-le-suc h)))

digit_assoc : (x y z : ℕ) → x < 2 → y < 2 → z < 2 → differ (differ x y) z ≡ differ x (differ y z)
digit_assoc x y z hx hy hz =
    digit_cases (λ (n : ℕ). differ (differ n y) z ≡ differ n (differ y z)) refl
    (digit_cases (λ (n : ℕ). differ (differ 1 n) z ≡ differ 1 (differ n z)) refl
    (digit_cases (λ (n : ℕ). differ (differ 1 1) n ≡ differ 1 (differ 1 n)) refl refl z hz) y hy) x hx

differ_lt : (x y : ℕ) → x < 2 → y < 2 → differ x y < 2
differ_lt x y hx hy = digit_cases (λ (n : ℕ). differ n y < 2) hy (digit_cases (λ (n : ℕ). differ 1 n < 2) (omega arith) (omega arith) y hy) x hx

pub bit : (n : ℕ) → n % 2 < 2
bit n = mod-lt n (zero-lt-suc 1)

half : (a b : ℕ) → bit_xor a b / 2 ≡ bit_xor (a / 2) (b / 2)
half a b = xor_shr a b 1

-- the lowest digit of a sum
low : (a b : ℕ) → bit_xor a b % 2 ≡ differ (a % 2) (b % 2)
low a b = ap (λ (n : ℕ). n % 2) (xor_step a b) ∙ digits_mod (bit_xor (a / 2) (b / 2)) (differ_lt (a % 2) (b % 2) (bit a) (bit b))

pub assoc : (a b c : ℕ) → (a ⊕ b) ⊕ c ≡ a ⊕ (b ⊕ c)
assoc a = bin_ind (λ (n : ℕ). (b c : ℕ) → bit_xor (bit_xor n b) c ≡ bit_xor n (bit_xor b c)) (λ b c. refl)
    (λ n ih b c. xor_step (bit_xor n b) c
    ∙ ap₂ (λ (x y : ℕ). x * 2 + y)
    (ap (λ (x : ℕ). bit_xor x (c / 2)) (half n b) ∙ ih (b / 2) (c / 2) ∙ ap (bit_xor (n / 2)) (sym (half b c)))
    (ap (λ (x : ℕ). differ x (c % 2)) (low n b) ∙ digit_assoc (n % 2) (b % 2) (c % 2) (bit n) (bit b) (bit c) ∙ ap (differ (n % 2)) (sym (low b c)))
    ∙ sym (xor_step n (bit_xor b c))) a

pub comm : (a b : ℕ) → a ⊕ b ≡ b ⊕ a
comm = xor_comm

pub left_comm : (a b c : ℕ) → a ⊕ (b ⊕ c) ≡ b ⊕ (a ⊕ c)
left_comm a b c = sym (assoc a b c) ∙ ap (λ (x : ℕ). x ⊕ c) (comm a b) ∙ assoc b a c

pub cancel : (a b : ℕ) → a ⊕ (a ⊕ b) ≡ b
cancel a b = sym (assoc a a b) ∙ ap (λ (x : ℕ). x ⊕ b) (xor_self a)

pub zero_right : (a : ℕ) → a ⊕ 0 ≡ a
zero_right = xor_zero_r

pub self : (a : ℕ) → a ⊕ a ≡ 0
self = xor_self

pub byte : (a b : ℕ) → a < 256 → b < 256 → a ⊕ b < 256
byte = xor_lt 8

-- (a + b) + (c + d) is (a + c) + (b + d)
pub exchange : (a b c d : ℕ) → (a ⊕ b) ⊕ (c ⊕ d) ≡ (a ⊕ c) ⊕ (b ⊕ d)
exchange a b c d = assoc a b (c ⊕ d) ∙ ap (bit_xor a) (left_comm b c d) ∙ sym (assoc a c (b ⊕ d))

-- a sum's digits
pub digit_sum : (k a b : ℕ) → (a ⊕ b) / 2 ^ k % 2 ≡ (a / 2 ^ k % 2) ⊕ (b / 2 ^ k % 2)
digit_sum k a b = ap (λ (n : ℕ). n % 2) (xor_shr a b k) ∙ xor_mod (a / 2 ^ k) (b / 2 ^ k) 1

-- a digit times a number
pub scale_left : (b x y : ℕ) → x < 2 → y < 2 → (x ⊕ y) * b ≡ (x * b) ⊕ (y * b)
scale_left b x y hx hy =
    digit_cases (λ (n : ℕ). (n ⊕ y) * b ≡ (n * b) ⊕ (y * b)) (sym (ap (λ (n : ℕ). n ⊕ (y * b)) (zero-mul b)))
    (digit_cases (λ (n : ℕ). (1 ⊕ n) * b ≡ (1 * b) ⊕ (n * b))
    (sym (ap (bit_xor (1 * b)) (zero-mul b) ∙ xor_zero_r (1 * b)))
    (zero-mul b ∙ sym (xor_self (1 * b))) y hy) x hx

pub scale_right : (b c x : ℕ) → x < 2 → x * (b ⊕ c) ≡ (x * b) ⊕ (x * c)
scale_right b c x hx =
    digit_cases (λ (n : ℕ). n * (b ⊕ c) ≡ (n * b) ⊕ (n * c))
    (zero-mul (b ⊕ c) ∙ sym (ap₂ bit_xor (zero-mul b) (zero-mul c)))
    (one-mul (b ⊕ c) ∙ sym (ap₂ bit_xor (one-mul b) (one-mul c))) x hx

-- a power of two times a number
pub shifted : (k b c : ℕ) → (b ⊕ c) * 2 ^ k ≡ (b * 2 ^ k) ⊕ (c * 2 ^ k)
shifted k b c =
    sym (add-zero (bit_xor b c * 2 ^ k)) ∙ sym (xor_block k b c 0 0 (pow_pos k) (pow_pos k))
    ∙ ap₂ bit_xor (add-zero (b * 2 ^ k)) (add-zero (c * 2 ^ k))
