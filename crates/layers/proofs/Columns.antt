-- Maps of a column's three bytes that keep sums: two that agree at the powers of two in each place agree at all bytes. So the
-- matrix times itself, and a column's rows made by doublings of its sum, are compared with the definition by one computed test.
use mathlib.Core.Path.{◌≡◌, refl, sym, ap, ap₂, ◌∙◌}
use mathlib.Core.Bool.{Bool, ◌&&◌}
use Prim.Native.Nat.{ℕ, zero, suc, ◌<◌}
use lib.Dec.{T, lit<}
use lib.Bits.{bit_xor}
use Rattle.field.specs.Field.{◌⊕◌, times, product, reduced}
use Rattle.field.proofs.Computed.{and_left, and_right, passed, entries_below}
use Rattle.field.proofs.Addition.{assoc, left_comm, zero_right, byte}
use Rattle.field.proofs.Linear.{same, agree_bytes, times-right}
use Rattle.field.proofs.Multiplication.{times_byte}
use Rattle.layers.specs.Layers.{matrix, entry, row_times}

-- ---- a map of a column's three bytes that keeps sums
abbrev pub Linear₃ : (ℕ → ℕ → ℕ → ℕ) → Type 0
Linear₃ f = (x y z u v w : ℕ) → f (x ⊕ u) (y ⊕ v) (z ⊕ w) ≡ f x y z ⊕ f u v w

-- the test at the powers of two in each place
unfoldable pub same₃ : (f g : ℕ → ℕ → ℕ → ℕ) → Bool
same₃ f g = same (λ n. f n 0 0) (λ n. g n 0 0) && (same (λ n. f 0 n 0) (λ n. g 0 n 0) && same (λ n. f 0 0 n) (λ n. g 0 0 n))

split₃ : (f : ℕ → ℕ → ℕ → ℕ) → Linear₃ f → (x y z : ℕ) → f x y z ≡ f x 0 0 ⊕ (f 0 y 0 ⊕ f 0 0 z)
split₃ f l x y z =
    ap₂ (λ (u v : ℕ). f u v z) (sym (zero_right x)) refl ∙ l x 0 0 0 y z
    ∙ ap (bit_xor (f x 0 0)) (ap (λ (u : ℕ). f 0 u z) (sym (zero_right y)) ∙ l 0 y 0 0 0 z)

pub row_times_linear : (i : ℕ) → Linear₃ (row_times i)
row_times_linear i x y z u v w = simp (times-right, assoc, left_comm)

-- two such maps that agree at the powers of two in each place agree at all bytes
pub agree₃ : (f g : ℕ → ℕ → ℕ → ℕ) → Linear₃ f → Linear₃ g → T (same₃ f g)
    → (x y z : ℕ) → x < 256 → y < 256 → z < 256 → f x y z ≡ g x y z
unfolding same₃
agree₃ f g lf lg t x y z hx hy hz =
    let first = same (λ n. f n 0 0) (λ n. g n 0 0) in
    let second = same (λ n. f 0 n 0) (λ n. g 0 n 0) in
    let third = same (λ n. f 0 0 n) (λ n. g 0 0 n) in
    let later : T (second && third) = and_right first (second && third) t in
    split₃ f lf x y z
    ∙ ap₂ bit_xor
    (agree_bytes (λ n. f n 0 0) (λ n. g n 0 0) (λ n m. lf n 0 0 m 0 0) (λ n m. lg n 0 0 m 0 0) (and_left first (second && third) t) x hx)
    (ap₂ bit_xor
    (agree_bytes (λ n. f 0 n 0) (λ n. g 0 n 0) (λ n m. lf 0 n 0 0 m 0) (λ n m. lg 0 n 0 0 m 0) (and_left second third later) y hy)
    (agree_bytes (λ n. f 0 0 n) (λ n. g 0 0 n) (λ n m. lf 0 0 n 0 0 m) (λ n m. lg 0 0 n 0 0 m) (and_right second third later) z hz))
    ∙ sym (split₃ g lg x y z)

-- the diffusion of a column, and of that
unfoldable pub twice : ℕ → ℕ → ℕ → ℕ → ℕ
twice i x y z = row_times i (row_times 0 x y z) (row_times 1 x y z) (row_times 2 x y z)

twice_linear : (i : ℕ) → Linear₃ (twice i)
unfolding twice
twice_linear i x y z u v w = simp (times-right, assoc, left_comm)

-- the byte of row i
abbrev pub row : ℕ → ℕ → ℕ → ℕ → ℕ
row zero x y z = x
row (suc zero) x y z = y
row (suc (suc i)) x y z = z

row_linear : (i : ℕ) → Linear₃ (row i)
row_linear zero x y z u v w = refl
row_linear (suc zero) x y z u v w = refl
row_linear (suc (suc i)) x y z u v w = refl

pub twice_is : (i : ℕ) → i < 3 → (x y z : ℕ) → x < 256 → y < 256 → z < 256 → twice i x y z ≡ row i x y z
unfolding twice times product reduced same same₃
twice_is i h = agree₃ (twice i) (row i) (twice_linear i) (row_linear i) (passed 3 (λ i. same₃ (twice i) (row i)) tt i h)

-- ---- a row times a column of bytes is a byte
entry_byte : (i k : ℕ) → entry i k < 256
entry_byte = entries_below 256 (lit< tt) matrix tt

pub row_times_byte : (i x y z : ℕ) → x < 256 → y < 256 → z < 256 → row_times i x y z < 256
row_times_byte i x y z hx hy hz =
    byte (times (entry i 0) x) (times (entry i 1) y ⊕ times (entry i 2) z) (times_byte (entry i 0) x (entry_byte i 0) hx)
    (byte (times (entry i 1) y) (times (entry i 2) z) (times_byte (entry i 1) y (entry_byte i 1) hy) (times_byte (entry i 2) z (entry_byte i 2) hz))

-- ---- a column's rows by doublings of its sum
abbrev pub sum : ℕ → ℕ → ℕ → ℕ
sum x y z = bit_xor (bit_xor x y) z

abbrev pub made : ℕ → ℕ → ℕ → ℕ → ℕ
made zero x y z = bit_xor x (times 2 (sum x y z))
made (suc zero) x y z = bit_xor y (times 2 (times 2 (sum x y z)))
made (suc (suc i)) x y z = bit_xor z (bit_xor (times 2 (sum x y z)) (times 2 (times 2 (sum x y z))))

made_linear : (i : ℕ) → Linear₃ (made i)
made_linear zero x y z u v w = simp (times-right, assoc, left_comm)
made_linear (suc zero) x y z u v w = simp (times-right, assoc, left_comm)
made_linear (suc (suc i)) x y z u v w = simp (times-right, assoc, left_comm)

pub made-is : (i : ℕ) → i < 3 → (x y z : ℕ) → x < 256 → y < 256 → z < 256 → made i x y z ≡ row_times i x y z
unfolding times product reduced same same₃
made-is i h = agree₃ (made i) (row_times i) (made_linear i) (row_times_linear i) (passed 3 (λ i. same₃ (made i) (row_times i)) tt i h)
