-- Laws of the field that only serve proofs: no demand asks for them. A term of each type stands in proofs/Lemmas.antt.
use Rattle.std.specs.Prelude.{◌≡◌, ℕ, ◌<◌}
use Rattle.field.specs.Field.{◌⊕◌, times, cube_root}

-- addition is a group in which each element is its own inverse, and bytes are closed under it
pub record AdditionLaws : Type 0 where
  pub associative : (a b c : ℕ) → (a ⊕ b) ⊕ c ≡ a ⊕ (b ⊕ c)
  pub commutative : (a b : ℕ) → a ⊕ b ≡ b ⊕ a
  pub zero_neutral : (a : ℕ) → a ⊕ 0 ≡ a
  pub self_inverse : (a : ℕ) → a ⊕ a ≡ 0
  pub stays_a_byte : (a b : ℕ) → a < 256 → b < 256 → a ⊕ b < 256

-- multiplication distributes over addition from both sides, and on bytes it is commutative, associative and closed
pub record MultiplicationLaws : Type 0 where
  pub distributes_right : (a x y : ℕ) → times a (x ⊕ y) ≡ times a x ⊕ times a y
  pub distributes_left : (b x y : ℕ) → times (x ⊕ y) b ≡ times x b ⊕ times y b
  pub commutative : (a b : ℕ) → a < 256 → b < 256 → times a b ≡ times b a
  pub associative : (a b x : ℕ) → a < 256 → b < 256 → x < 256 → times a (times b x) ≡ times (times a b) x
  pub one_neutral : (x : ℕ) → x < 256 → times 1 x ≡ x
  pub stays_a_byte : (a b : ℕ) → a < 256 → b < 256 → times a b < 256

-- the constant c: its square is c + 1, so c + 1 is its inverse
pub record CubeRootLaws : Type 0 where
  pub square : times cube_root cube_root ≡ cube_root ⊕ 1
  pub inverse : times cube_root (cube_root ⊕ 1) ≡ 1
