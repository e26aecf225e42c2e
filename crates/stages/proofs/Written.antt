-- What the code makes of a stage: column after column in place, then what stood there before; or byte after byte, then zeros to 24 bytes.
use mathlib.Core.Path.{◌≡◌, refl, sym, ap, ◌∙◌}
use mathlib.Core.Bool.{Bool, true, false, cond}
use mathlib.Core.List.{List, [], ◌∷◌, ◌++◌, append_assoc}
use Prim.Native.Nat.{ℕ, suc, ◌+◌, ◌-◌, ◌*◌, ◌≤◌, ◌<◌}
use native.Mathlib.Nat.{zero-add, suc-add}
use native.Mathlib.Omega.{arith}
use native.Mathlib.Numerals.{add-one}
use lib.ListN.{length, get_or, drop, set}
use lib.Dec.{ltb}
use lib.Seq.{set_at, drop-cons, get_or-append-add, get_or-drop}
use borrow.Author.Tests.{ltb-true, ltb-false}
use Rattle.field.specs.Field.{◌⊕◌, times, cube_root}
use Rattle.stages.specs.Columns.{cell, fill, rule_byte}
use Rattle.stages.specs.Stages.{next, previous, by_row, moved, linear_step}
use Rattle.stages.proofs.Columns.{length-columns, fill_last}
use Rattle.stages.proofs.Places.{next_on, next_around}
use Rattle.stages.proofs.ColumnRule.{rule_fill}

-- the bytes of a column, written
abbrev pub put_column : List ℕ → ℕ → ℕ → ℕ → ℕ → List ℕ
put_column k j x y z = set (set (set k (3 * j) x) (3 * j + 1) y) (3 * j + 2) z

-- the column rule with m over what g has in row i, column j
abbrev pub ruled : ℕ → (ℕ → ℕ → ℕ) → ℕ → ℕ → ℕ
ruled m g i j = rule_byte m (g i j) (g 0 j) (g 1 j) (g 2 j)

-- the linear step in one pass: what it has in row i, column j
abbrev pub stepped : ℕ → List ℕ → ℕ → ℕ → ℕ
stepped n k = ruled cube_root (λ i j. cell k i (by_row i j (next n j) (previous n j)))

pub step_once : (n : ℕ) (k : List ℕ) → linear_step n k ≡ fill n (stepped n k)
unfolding linear_step moved
step_once n k = rule_fill cube_root n (λ i j. cell k i (by_row i j (next n j) (previous n j)))

-- ---- a stage written column after column
set_past : (p q : List ℕ) (i a : ℕ) → set (p ++ q) (length p + i) a ≡ p ++ set q i a
set_past [] q i a = ap (λ (x : ℕ). set q x a) (zero-add i)
set_past (x ∷ p) q i a = ap (λ (m : ℕ). set (x ∷ (p ++ q)) m a) (suc-add (length p) i) ∙ ap {B = List ℕ} (λ l. x ∷ l) (set_past p q i a)

put_past : (p q : List ℕ) (j a b c x y z : ℕ) → length p ≡ 3 * j
    → put_column (p ++ (a ∷ b ∷ c ∷ q)) j x y z ≡ (p ++ (x ∷ y ∷ z ∷ [])) ++ q
put_past p q j a b c x y z e =
    ap (λ (l : List ℕ). set (set l (3 * j + 1) y) (3 * j + 2) z)
    (ap (λ (m : ℕ). set (p ++ (a ∷ b ∷ c ∷ q)) m x) (omega arith) ∙ set_past p (a ∷ b ∷ c ∷ q) 0 x)
    ∙ ap (λ (l : List ℕ). set l (3 * j + 2) z)
    (ap (λ (m : ℕ). set (p ++ (x ∷ b ∷ c ∷ q)) m y) (omega arith) ∙ set_past p (x ∷ b ∷ c ∷ q) 1 y)
    ∙ ap (λ (m : ℕ). set (p ++ (x ∷ y ∷ c ∷ q)) m z) (omega arith) ∙ set_past p (x ∷ y ∷ c ∷ q) 2 z
    ∙ sym (append_assoc p (x ∷ y ∷ z ∷ []) q)

-- ---- a stage written in place: j columns of f, then what stood there before
abbrev pub upto : (ℕ → ℕ → ℕ) → ℕ → List ℕ → List ℕ
upto f j k = fill j f ++ drop (3 * j) k

-- the columns from j on stand as they did
pub unwritten : (f : ℕ → ℕ → ℕ) (j : ℕ) (k out : List ℕ) (p : ℕ) → out ≡ upto f j k → 3 * j ≤ p → get_or out p 0 ≡ get_or k p 0
unwritten f j k out p e h =
    ap (λ (l : List ℕ). get_or l p 0) e
    ∙ ap (λ (m : ℕ). get_or (upto f j k) m 0) (omega (arith, length-columns f 0 j))
    ∙ get_or-append-add (fill j f) (drop (3 * j) k) (p - 3 * j) 0
    ∙ get_or-drop (3 * j) k (p - 3 * j) 0
    ∙ ap (λ (m : ℕ). get_or k m 0) (omega arith)

-- column j, and what follows it
column-first : (j : ℕ) (k : List ℕ) → 3 * j + 2 < length k
    → drop (3 * j) k ≡ get_or k (3 * j) 0 ∷ get_or k (3 * j + 1) 0 ∷ get_or k (3 * j + 2) 0 ∷ drop (3 * (j + 1)) k
column-first j k h =
    drop-cons k (3 * j) 0 (omega arith)
    ∙ ap {B = List ℕ} (λ l. get_or k (3 * j) 0 ∷ l) (at (suc (3 * j)) (3 * j + 1) (omega arith) ∙ drop-cons k (3 * j + 1) 0 (omega arith)
    ∙ ap {B = List ℕ} (λ l. get_or k (3 * j + 1) 0 ∷ l) (at (suc (3 * j + 1)) (3 * j + 2) (omega arith) ∙ drop-cons k (3 * j + 2) 0 (omega arith)
    ∙ ap {B = List ℕ} (λ l. get_or k (3 * j + 2) 0 ∷ l) (at (suc (3 * j + 2)) (3 * (j + 1)) (omega arith))))
  where
    at : (a b : ℕ) → a ≡ b → drop a k ≡ drop b k
    at a b q = ap (λ (m : ℕ). drop m k) q

-- one more column written, or only its row 0 where the others stay
module _ (f : ℕ → ℕ → ℕ) (j : ℕ) (k out : List ℕ) (h : 3 * j + 2 < length k) (e : out ≡ upto f j k) where
  opened : out ≡ fill j f ++ (get_or k (3 * j) 0 ∷ get_or k (3 * j + 1) 0 ∷ get_or k (3 * j + 2) 0 ∷ drop (3 * (j + 1)) k)
  opened = e ∙ ap (λ (l : List ℕ). fill j f ++ l) (column-first j k h)

  closed : (fill j f ++ (f 0 j ∷ f 1 j ∷ f 2 j ∷ [])) ++ drop (3 * (j + 1)) k ≡ upto f (j + 1) k
  closed = ap (λ (l : List ℕ). l ++ drop (3 * (j + 1)) k) (sym (fill_last f j) ∙ ap (λ (m : ℕ). fill m f) (sym (add-one j)))

  pub column_put : (x y z : ℕ) → x ≡ f 0 j → y ≡ f 1 j → z ≡ f 2 j → put_column out j x y z ≡ upto f (j + 1) k
  column_put x y z ex ey ez =
      ap (λ (l : List ℕ). put_column l j x y z) opened
      ∙ put_past (fill j f) (drop (3 * (j + 1)) k) j _ _ _ x y z (length-columns f 0 j)
      ∙ (λ i. (fill j f ++ (ex i ∷ ey i ∷ ez i ∷ [])) ++ drop (3 * (j + 1)) k)
      ∙ closed

  pub row_put : (x : ℕ) → x ≡ f 0 j → cell k 1 j ≡ f 1 j → cell k 2 j ≡ f 2 j → set out (3 * j) x ≡ upto f (j + 1) k
  row_put x ex ey ez =
      let y = at (3 * j + 1) (1 + 3 * j) (omega arith) ∙ ey in
      let z = at (3 * j + 2) (2 + 3 * j) (omega arith) ∙ ez in
      ap (λ (l : List ℕ). set l (3 * j) x) opened
      ∙ set_at (fill j f) _ _ x (3 * j) (length-columns f 0 j)
      ∙ sym (append_assoc (fill j f) (x ∷ get_or k (3 * j + 1) 0 ∷ get_or k (3 * j + 2) 0 ∷ []) (drop (3 * (j + 1)) k))
      ∙ (λ i. (fill j f ++ (ex i ∷ y i ∷ z i ∷ [])) ++ drop (3 * (j + 1)) k)
      ∙ closed
    where
      at : (a b : ℕ) → a ≡ b → get_or k a 0 ≡ get_or k b 0
      at a b q = ap (λ (m : ℕ). get_or k m 0) q

-- what the linear step in place reads: the columns that it has not written, and the two bytes kept aside
module _ (n : ℕ) (k out : List ℕ) (j : ℕ) (h : j < n) (e : out ≡ upto (stepped n k) j k) where
  pub read_unwritten : (i p : ℕ) → p ≡ i + 3 * j → get_or out p 0 ≡ cell k i j
  read_unwritten i p q = unwritten (stepped n k) j k out p e (omega arith) ∙ ap (λ (m : ℕ). get_or k m 0) q

  pub read-after : (first : ℕ) → first ≡ cell k 1 0 → cond (ltb (j + 1) n) (cell out 1 (j + 1)) first ≡ cell k 1 (next n j)
  read-after first ef = by (ltb (j + 1) n) refl
    where
      by : (b : Bool) → ltb (j + 1) n ≡ b → cond b (cell out 1 (j + 1)) first ≡ cell k 1 (next n j)
      by true t = unwritten (stepped n k) j k out (1 + 3 * (j + 1)) e (omega arith) ∙ ap (cell k 1) (next_on n j (ltb-true (j + 1) n t))
      by false t = ef ∙ ap (cell k 1) (next_around n j h (ltb-false (j + 1) n t))

  pub column-stepped : (x y z a : ℕ) → 3 * j + 2 < length k → x ≡ cell k 0 j → y ≡ cell k 1 (next n j) → z ≡ cell k 2 (previous n j)
      → a ≡ times cube_root (x ⊕ (y ⊕ z)) → put_column out j (x ⊕ a) (y ⊕ a) (z ⊕ a) ≡ upto (stepped n k) (j + 1) k
  column-stepped x y z a l ex ey ez ea =
      column_put (stepped n k) j k out l e (x ⊕ a) (y ⊕ a) (z ⊕ a) (cc (ex, ey, ez, ea)) (cc (ex, ey, ez, ea)) (cc (ex, ey, ez, ea))
