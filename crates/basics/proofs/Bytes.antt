-- Lists made of lists of bytes are lists of bytes.
use mathlib.Core.List.{List, [], ◌∷◌, ◌++◌}
use Prim.Native.Nat.{ℕ, zero, suc, ◌<◌}
use lib.Dec.{lit<}
use lib.ListN.{take, drop, set, replicate}
use Rattle.basics.specs.Bytes.{AreBytes}

pub take-bytes : (n : ℕ) (xs : List ℕ) → AreBytes xs → AreBytes (take n xs)
take-bytes zero xs h i = lit< tt
take-bytes (suc n) [] h i = lit< tt
take-bytes (suc n) (x ∷ xs) h zero = h 0
take-bytes (suc n) (x ∷ xs) h (suc i) = take-bytes n xs (λ j. h (suc j)) i

pub drop-bytes : (n : ℕ) (xs : List ℕ) → AreBytes xs → AreBytes (drop n xs)
drop-bytes zero xs h i = h i
drop-bytes (suc n) [] h i = lit< tt
drop-bytes (suc n) (x ∷ xs) h i = drop-bytes n xs (λ j. h (suc j)) i

pub joined_bytes : (xs ys : List ℕ) → AreBytes xs → AreBytes ys → AreBytes (xs ++ ys)
joined_bytes [] ys hx hy i = hy i
joined_bytes (x ∷ xs) ys hx hy zero = hx 0
joined_bytes (x ∷ xs) ys hx hy (suc i) = joined_bytes xs ys (λ j. hx (suc j)) hy i

pub repeated-bytes : (n x : ℕ) → x < 256 → AreBytes (replicate n x)
repeated-bytes zero x h i = lit< tt
repeated-bytes (suc n) x h zero = h
repeated-bytes (suc n) x h (suc i) = repeated-bytes n x h i

pub set-bytes : (xs : List ℕ) (i x : ℕ) → AreBytes xs → x < 256 → AreBytes (set xs i x)
set-bytes [] i x h l j = lit< tt
set-bytes (y ∷ ys) zero x h l zero = l
set-bytes (y ∷ ys) zero x h l (suc j) = h (suc j)
set-bytes (y ∷ ys) (suc i) x h l zero = h 0
set-bytes (y ∷ ys) (suc i) x h l (suc j) = set-bytes ys i x (λ k. h (suc k)) l j
