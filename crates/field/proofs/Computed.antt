-- A test that the prover computes at each number below n, and what a passed test shows of each.
use mathlib.Core.Bool.{Bool, true, false, ◌&&◌}
use Prim.Native.Nat.{ℕ, zero, suc, ◌<◌}
use native.Mathlib.Nat.{not-suc-le-zero, le_of_suc-le-suc, eq-or-lt_of_le}
use mathlib.Core.Path.{subst, sym}
use mathlib.Core.Logic.{inl, inr}
use lib.Dec.{T, ltb, ltb→lt}
use lib.ListN.{get_or}
use mathlib.Core.List.{List, [], ◌∷◌}

-- the parts of a passed test
pub and_left : (a b : Bool) → T (a && b) → T a
and_left true b t = tt
and_left false b t = t

pub and_right : (a b : Bool) → T (a && b) → T b
and_right true b t = t
and_right false b t = absurd t

-- the test passes at each number below n
abbrev pub all : ℕ → (ℕ → Bool) → Bool
all zero f = true
all (suc n) f = f n && all n f

pub passed : (n : ℕ) (f : ℕ → Bool) → T (all n f) → (k : ℕ) → k < n → T (f k)
passed zero f t k h = absurd (not-suc-le-zero h)
passed (suc n) f t k h =
    elim (eq-or-lt_of_le (le_of_suc-le-suc h)) [
      | inl e ↦ subst (λ (m : ℕ). T (f m)) (sym e) (and_left (f n) (all n f) t)
      | inr l ↦ passed n f (and_right (f n) (all n f) t) k l
    ]

-- the test of a bound on each entry of a table, and what it shows of the entry at any place
abbrev pub each_below : ℕ → List ℕ → Bool
each_below b [] = true
each_below b (x ∷ xs) = ltb x b && each_below b xs

pub entry-below : (b : ℕ) → 0 < b → (xs : List ℕ) → T (each_below b xs) → (k : ℕ) → get_or xs k 0 < b
entry-below b h [] t k = h
entry-below b h (x ∷ xs) t zero = ltb→lt x b (and_left (ltb x b) (each_below b xs) t)
entry-below b h (x ∷ xs) t (suc k) = entry-below b h xs (and_right (ltb x b) (each_below b xs) t) k

-- the same of a table of tables
abbrev pub all_below : ℕ → List (List ℕ) → Bool
all_below b [] = true
all_below b (xs ∷ xss) = each_below b xs && all_below b xss

pub entries_below : (b : ℕ) → 0 < b → (xss : List (List ℕ)) → T (all_below b xss) → (i k : ℕ) → get_or (get_or xss i []) k 0 < b
entries_below b h [] t i k = h
entries_below b h (xs ∷ xss) t zero k = entry-below b h xs (and_left (each_below b xs) (all_below b xss) t) k
entries_below b h (xs ∷ xss) t (suc i) k = entries_below b h xss (and_right (each_below b xs) (all_below b xss) t) i k
