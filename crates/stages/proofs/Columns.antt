-- The laws of columns: a stage is read back by its cells, and two that agree at every cell are equal.
use mathlib.Core.Path.{◌≡◌, refl, sym, ap, ◌∙◌, subst}
use mathlib.Core.List.{List, [], ◌∷◌, ◌++◌}
use Prim.Native.Nat.{ℕ, zero, suc, ◌+◌, ◌*◌, ◌/◌, ◌%◌, ◌≤◌, ◌<◌}
use native.Mathlib.Nat.{not-suc-le-zero, add-zero, zero-add}
use native.Mathlib.Omega.{arith}
use lib.ListN.{get_or, length}
use lib.Seq.{ext_get_or}
use lib.Dec.{lit<}
use Rattle.stages.specs.Columns.{cell, columns, fill, IsStage, filled}

row-cases {ℓ} : (P : ℕ → Type ℓ) → P 0 → P 1 → P 2 → (i : ℕ) → i < 3 → P i
row-cases P a b c zero h = a
row-cases P a b c (suc zero) h = b
row-cases P a b c (suc (suc zero)) h = c
row-cases P a b c (suc (suc (suc i))) h = absurd (not-suc-le-zero {n = i} (omega arith))

module _ {A : Type 0} where
  columns_path : (f g : ℕ → ℕ → A) (j n : ℕ) → ((i m : ℕ) → i < 3 → j ≤ m → m < j + n → f i m ≡ g i m)
      → columns j n f ≡ columns j n g
  unfolding columns
  columns_path f g j zero h = refl
  columns_path f g j (suc n) h =
      λ t. h 0 j (lit< tt) (omega arith) (omega arith) t ∷ h 1 j (lit< tt) (omega arith) (omega arith) t ∷ h 2 j (lit< tt) (omega arith) (omega arith) t
      ∷ columns_path f g (suc j) n (λ i m hi l u. h i m hi (omega arith) (omega arith)) t

  pub fill_path : (n : ℕ) (f g : ℕ → ℕ → A) → ((i j : ℕ) → i < 3 → j < n → f i j ≡ g i j) → fill n f ≡ fill n g
  fill_path n f g h = columns_path f g 0 n (λ i m hi l u. h i m hi (omega arith))

  get_or-columns : (d : A) (f : ℕ → ℕ → A) (j n i m : ℕ) → i < 3 → m < n → get_or (columns j n f) (i + 3 * m) d ≡ f i (j + m)
  unfolding columns
  get_or-columns d f j zero i m hi hm = absurd (not-suc-le-zero hm)
  get_or-columns d f j (suc n) i zero hi hm =
      row-cases (λ (r : ℕ). get_or (f 0 j ∷ f 1 j ∷ f 2 j ∷ columns (suc j) n f) (r + 3 * 0) d ≡ f r (j + 0))
      (ap (f 0) (sym (add-zero j))) (ap (f 1) (sym (add-zero j))) (ap (f 2) (sym (add-zero j))) i hi
  get_or-columns d f j (suc n) i (suc m) hi hm =
      ap (λ (x : ℕ). get_or (f 0 j ∷ f 1 j ∷ f 2 j ∷ columns (suc j) n f) x d) e
      ∙ get_or-columns d f (suc j) n i m hi (omega arith) ∙ ap (f i) (omega arith)
    where
      e : i + 3 * suc m ≡ suc (suc (suc (i + 3 * m)))
      e = omega arith

  pub get_or-fill : (d : A) (n : ℕ) (f : ℕ → ℕ → A) (i j : ℕ) → i < 3 → j < n → get_or (fill n f) (i + 3 * j) d ≡ f i j
  get_or-fill d n f i j hi hj = get_or-columns d f 0 n i j hi hj ∙ ap (f i) (zero-add j)

pub cell-fill : (n : ℕ) (f : ℕ → ℕ → ℕ) (i j : ℕ) → i < 3 → j < n → cell (fill n f) i j ≡ f i j
cell-fill = get_or-fill 0

-- ---- lists of columns, from the other end
pub length-columns : {A : Type 0} (f : ℕ → ℕ → A) (j n : ℕ) → length (columns j n f) ≡ 3 * n
unfolding columns
length-columns f j zero = refl
length-columns f j (suc n) = let h = length-columns f (suc j) n in omega arith

pub columns_last : {A : Type 0} (f : ℕ → ℕ → A) (j n : ℕ)
    → columns j (suc n) f ≡ columns j n f ++ (f 0 (j + n) ∷ f 1 (j + n) ∷ f 2 (j + n) ∷ [])
unfolding columns
columns_last f j zero = ap (λ (m : ℕ). f 0 m ∷ f 1 m ∷ f 2 m ∷ []) (sym (add-zero j))
columns_last {A} f j (suc n) =
    ap {B = List A} (λ l. f 0 j ∷ f 1 j ∷ f 2 j ∷ l)
    (columns_last f (suc j) n ∙ ap (λ (m : ℕ). columns (suc j) n f ++ (f 0 m ∷ f 1 m ∷ f 2 m ∷ [])) (omega arith))

pub fill_last : {A : Type 0} (f : ℕ → ℕ → A) (n : ℕ) → fill (suc n) f ≡ fill n f ++ (f 0 n ∷ f 1 n ∷ f 2 n ∷ [])
fill_last f n = columns_last f 0 n ∙ ap (λ (m : ℕ). fill n f ++ (f 0 m ∷ f 1 m ∷ f 2 m ∷ [])) (zero-add n)

-- a list of 3 n bytes is filled by its own cells
pub refill : (n : ℕ) (k : List ℕ) → length k ≡ 3 * n → fill n (cell k) ≡ k
refill n k e = ext_get_or 0 (fill n (cell k)) k (length-columns (cell k) 0 n ∙ sym e)
    (λ p h.
    let z : p % 3 + 3 * (p / 3) ≡ p = omega arith in
    ap (λ (x : ℕ). get_or (fill n (cell k)) x 0) (sym z)
    ∙ get_or-fill 0 n (cell k) (p % 3) (p / 3) (omega arith) (omega (arith, length-columns (cell k) 0 n))
    ∙ ap (λ (x : ℕ). get_or k x 0) z)

pub as_stage : (n : ℕ) (k : List ℕ) → length k ≡ 3 * n → ((p : ℕ) → get_or k p 0 < 256) → IsStage n k
as_stage n k e h = subst (IsStage n) (refill n k e) (filled (cell k) (λ i j. h (i + 3 * j)))

-- every byte of a stage, and what stands for those past it, is a byte
columns_byte : (j n : ℕ) (f : ℕ → ℕ → ℕ) → ((i m : ℕ) → f i m < 256) → (p : ℕ) → get_or (columns j n f) p 0 < 256
unfolding columns
columns_byte j zero f h p = lit< tt
columns_byte j (suc n) f h zero = h 0 j
columns_byte j (suc n) f h (suc zero) = h 1 j
columns_byte j (suc n) f h (suc (suc zero)) = h 2 j
columns_byte j (suc n) f h (suc (suc (suc p))) = columns_byte (suc j) n f h p

pub stage_byte : (n : ℕ) {k : List ℕ} → IsStage n k → (p : ℕ) → get_or k p 0 < 256
stage_byte n (filled f h) p = columns_byte 0 n f h p
