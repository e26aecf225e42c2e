-- A roll in bytes, two to a count: lengths, sizes, and one count read and written where it lies.
use mathlib.Core.Path.{◌≡◌, refl, sym, ap, ap₂, ◌∙◌}
use mathlib.Core.List.{List, [], ◌∷◌}
use Prim.Native.Nat.{ℕ, zero, suc, ◌+◌, ◌*◌, ◌/◌, ◌%◌, ◌≤◌, ◌<◌}
use native.Mathlib.Omega.{arith}
use lib.Dec.{lit<}
use lib.ListN.{length, get_or, set}
use Rattle.basics.specs.Bytes.{AreBytes}
use Rattle.numbers.specs.Numbers.{two_from}
use Rattle.numbers.proofs.Laws.{high, low}
use Rattle.roll_bytes.specs.RollBytes.{counts_of, counts_bytes}

-- ---- counts read from bytes
pub length_counts : (bs : List ℕ) (n : ℕ) → length bs ≡ 2 * n → length (counts_of bs) ≡ n
unfolding counts_of
length_counts [] zero e = refl
length_counts [] (suc n) e = let z : ⊥ = omega (arith, e) in absurd z
length_counts (a ∷ []) zero e = let z : ⊥ = omega (arith, e) in absurd z
length_counts (a ∷ []) (suc n) e = let z : ⊥ = omega (arith, e) in absurd z
length_counts (a ∷ b ∷ bs) zero e = let z : ⊥ = omega (arith, e) in absurd z
length_counts (a ∷ b ∷ bs) (suc n) e = ap suc (length_counts bs n (omega (arith, e)))

-- counts of bytes are 16-bit numbers
pub counts_small : (bs : List ℕ) → AreBytes bs → (i : ℕ) → get_or (counts_of bs) i 0 < 65536
unfolding counts_of
counts_small [] h i = lit< tt
counts_small (a ∷ []) h i = lit< tt
counts_small (a ∷ b ∷ bs) h zero = omega (arith, h 0, h 1)
counts_small (a ∷ b ∷ bs) h (suc i) = counts_small bs (λ j. h (suc (suc j))) i

-- the place of a count's bytes, from the one before it
twice : (i : ℕ) → 2 * suc i ≡ suc (suc (2 * i))
twice i = omega arith

and_one : (i : ℕ) → 2 * suc i + 1 ≡ suc (suc (2 * i + 1))
and_one i = omega arith

-- count i where its two bytes are there, and where they are not
pub count_at : (bs : List ℕ) (i : ℕ) → 2 * i + 2 ≤ length bs → get_or (counts_of bs) i 0 ≡ two_from (get_or bs (2 * i) 0) (get_or bs (2 * i + 1) 0)
unfolding counts_of
count_at [] i h = let z : ⊥ = omega arith in absurd z
count_at (a ∷ []) i h = let z : ⊥ = omega arith in absurd z
count_at (a ∷ b ∷ bs) zero h = refl
count_at (a ∷ b ∷ bs) (suc i) h =
    count_at bs i (omega arith)
    ∙ sym (ap₂ (λ (k l : ℕ). two_from (get_or (a ∷ b ∷ bs) k 0) (get_or (a ∷ b ∷ bs) l 0)) (twice i) (and_one i))

pub count_past : (bs : List ℕ) (i : ℕ) → length bs < 2 * i + 2 → get_or (counts_of bs) i 0 ≡ 0
unfolding counts_of
count_past [] i h = refl
count_past (a ∷ []) i h = refl
count_past (a ∷ b ∷ bs) zero h = let z : ⊥ = omega arith in absurd z
count_past (a ∷ b ∷ bs) (suc i) h = count_past bs i (omega arith)

-- ---- counts written to bytes
pub length-bytes : (ns : List ℕ) → length (counts_bytes ns) ≡ 2 * length ns
unfolding counts_bytes
length-bytes [] = refl
length-bytes (n ∷ ns) = let h = length-bytes ns in omega arith

pub bytes_small : (ns : List ℕ) → AreBytes (counts_bytes ns)
unfolding counts_bytes
bytes_small [] i = lit< tt
bytes_small (n ∷ ns) zero = omega arith
bytes_small (n ∷ ns) (suc zero) = omega arith
bytes_small (n ∷ ns) (suc (suc i)) = bytes_small ns i

pub bytes_again : (bs : List ℕ) (n : ℕ) → length bs ≡ 2 * n → AreBytes bs → counts_bytes (counts_of bs) ≡ bs
unfolding counts_of counts_bytes
bytes_again [] n e h = refl
bytes_again (a ∷ []) zero e h = let z : ⊥ = omega (arith, e) in absurd z
bytes_again (a ∷ []) (suc n) e h = let z : ⊥ = omega (arith, e) in absurd z
bytes_again (a ∷ b ∷ bs) zero e h = let z : ⊥ = omega (arith, e) in absurd z
bytes_again (a ∷ b ∷ bs) (suc n) e h = λ i.
    high a b (h 0) (h 1) i ∷ low a b (h 1) i ∷ bytes_again bs n (omega (arith, e)) (λ j. h (suc (suc j))) i

-- one count changed: its two bytes are written, and no other
pub count_put : (bs : List ℕ) (n i v : ℕ) → length bs ≡ 2 * n → AreBytes bs → i < n
    → set (set bs (2 * i) (v / 256 % 256)) (2 * i + 1) (v % 256) ≡ counts_bytes (set (counts_of bs) i v)
unfolding counts_of counts_bytes
count_put [] n i v e h l = let z : ⊥ = omega (arith, e) in absurd z
count_put (a ∷ []) n i v e h l = let z : ⊥ = omega (arith, e) in absurd z
count_put (a ∷ b ∷ bs) zero i v e h l = let z : ⊥ = omega arith in absurd z
count_put (a ∷ b ∷ bs) (suc n) zero v e h l =
    ap {B = List ℕ} (λ x. v / 256 % 256 ∷ v % 256 ∷ x) (sym (bytes_again bs n (omega (arith, e)) (λ j. h (suc (suc j)))))
count_put (a ∷ b ∷ bs) (suc n) (suc i) v e h l =
    ap₂ (λ (k m : ℕ). set (set (a ∷ b ∷ bs) k (v / 256 % 256)) m (v % 256)) (twice i) (and_one i)
    ∙ (λ j. sym (high a b (h 0) (h 1)) j ∷ sym (low a b (h 1)) j ∷ count_put bs n i v (omega (arith, e)) (λ k. h (suc (suc k))) (omega arith) j)
