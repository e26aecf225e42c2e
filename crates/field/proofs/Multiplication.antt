-- The laws of multiplication: each side is linear in each number, so a test at the powers of two shows them for every byte.
use mathlib.Core.Path.{◌≡◌, refl, ap, ◌∙◌, subst}
use mathlib.Core.Bool.{Bool}
use Prim.Native.Nat.{ℕ, ◌%◌, ◌^◌, ◌<◌}
use native.Mathlib.Nat.{mod-lt, zero-lt-suc}
use lib.Dec.{T, eqb, eqb→eq}
use lib.Bits.{xor_mod}
use Rattle.field.specs.Field.{product, reduced, times}
use Rattle.field.proofs.Computed.{all, passed}
use Rattle.field.proofs.Linear.{Linear, agree, same, agree_bytes, at_zero, times-left, times-right}

module _ (f g : ℕ → ℕ → ℕ)
    (fl : (b : ℕ) → Linear (λ a. f a b)) (fr : (a : ℕ) → Linear (f a))
    (gl : (b : ℕ) → Linear (λ a. g a b)) (gr : (a : ℕ) → Linear (g a)) where
  abbrev pub Test₂ : Bool
  Test₂ = all 8 (λ i. all 8 (λ j. eqb (f (2 ^ i) (2 ^ j)) (g (2 ^ i) (2 ^ j))))

  pub agree₂ : T Test₂ → (a b : ℕ) → a < 256 → b < 256 → f a b ≡ g a b
  agree₂ t a b ha hb =
      agree (λ x. f x b) (λ x. g x b) (fl b) (gl b) 8
      (λ i hi. agree (f (2 ^ i)) (g (2 ^ i)) (fr (2 ^ i)) (gr (2 ^ i)) 8
      (λ j hj. eqb→eq (f (2 ^ i) (2 ^ j)) (g (2 ^ i) (2 ^ j))
      (passed 8 (λ j. eqb (f (2 ^ i) (2 ^ j)) (g (2 ^ i) (2 ^ j)))
      (passed 8 (λ i. all 8 (λ j. eqb (f (2 ^ i) (2 ^ j)) (g (2 ^ i) (2 ^ j)))) t i hi) j hj)) b hb) a ha

pub times_comm : (a b : ℕ) → a < 256 → b < 256 → times a b ≡ times b a
unfolding times product reduced
times_comm = agree₂ times (λ a b. times b a) times-left times-right times-right times-left tt

low : Linear (λ x. x % 256)
low x y = xor_mod x y 8

pub times_mod : (a b : ℕ) → a < 256 → b < 256 → times a b % 256 ≡ times a b
unfolding times product reduced
times_mod = agree₂ (λ a b. times a b % 256) times
    (λ b x y. ap (λ (n : ℕ). n % 256) (times-left b x y) ∙ low (times x b) (times y b))
    (λ a x y. ap (λ (n : ℕ). n % 256) (times-right a x y) ∙ low (times a x) (times a y))
    times-left times-right tt

pub times_byte : (a b : ℕ) → a < 256 → b < 256 → times a b < 256
times_byte a b ha hb = subst (λ (n : ℕ). n < 256) (times_mod a b ha hb) (mod-lt (times a b) (zero-lt-suc 255))

-- at powers of two
assoc_at : ℕ → ℕ → ℕ → Bool
assoc_at i j k = eqb (times (2 ^ i) (times (2 ^ j) (2 ^ k))) (times (times (2 ^ i) (2 ^ j)) (2 ^ k))

assoc_test : T (all 8 (λ i. all 8 (λ j. all 8 (λ k. assoc_at i j k))))
unfolding assoc_at times product reduced
assoc_test = tt

assoc_powers : (i j k : ℕ) → i < 8 → j < 8 → k < 8 → times (2 ^ i) (times (2 ^ j) (2 ^ k)) ≡ times (times (2 ^ i) (2 ^ j)) (2 ^ k)
unfolding assoc_at
assoc_powers i j k hi hj hk =
    let first = passed 8 (λ i. all 8 (λ j. all 8 (λ k. assoc_at i j k))) assoc_test i hi in
    eqb→eq _ _ (passed 8 (λ k. assoc_at i j k) (passed 8 (λ j. all 8 (λ k. assoc_at i j k)) first j hj) k hk)

pub times_assoc : (a b x : ℕ) → a < 256 → b < 256 → x < 256 → times a (times b x) ≡ times (times a b) x
times_assoc a b x ha hb hx =
    agree (λ a. times a (times b x)) (λ a. times (times a b) x) (times-left (times b x))
    (λ u v. ap (λ (n : ℕ). times n x) (times-left b u v) ∙ times-left x (times u b) (times v b)) 8
    (λ i hi. agree (λ b. times (2 ^ i) (times b x)) (λ b. times (times (2 ^ i) b) x)
    (λ u v. ap (times (2 ^ i)) (times-left x u v) ∙ times-right (2 ^ i) (times u x) (times v x))
    (λ u v. ap (λ (n : ℕ). times n x) (times-right (2 ^ i) u v) ∙ times-left x (times (2 ^ i) u) (times (2 ^ i) v)) 8
    (λ j hj. agree (λ x. times (2 ^ i) (times (2 ^ j) x)) (times (times (2 ^ i) (2 ^ j)))
    (λ u v. ap (times (2 ^ i)) (times-right (2 ^ j) u v) ∙ times-right (2 ^ i) (times (2 ^ j) u) (times (2 ^ j) v))
    (times-right (times (2 ^ i) (2 ^ j))) 8
    (λ k hk. assoc_powers i j k hi hj hk) x hx) b hb) a ha

pub one_times : (x : ℕ) → x < 256 → times 1 x ≡ x
unfolding same times product reduced
one_times = agree_bytes (times 1) (λ x. x) (times-right 1) (λ u v. refl) tt

pub times_zero : (a : ℕ) → times a 0 ≡ 0
times_zero a = at_zero (times a) (times-right a)
