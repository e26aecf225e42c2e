-- The inverse step in place, column after column: what it has in each column, and what it reads of the columns not yet written.
use mathlib.Core.Path.{◌≡◌, refl, sym, ap, ap₂, ◌∙◌}
use mathlib.Core.Bool.{Bool, true, false, cond}
use mathlib.Core.List.{List, [], ◌∷◌, ◌++◌}
use Prim.Native.Nat.{ℕ, ◌+◌, ◌*◌, ◌%◌, ◌≤◌, ◌<◌}
use native.Mathlib.Nat.{mod-eq_of_lt}
use native.Mathlib.Omega.{arith}
use lib.Dec.{ltb}
use lib.ListN.{length, get_or, drop}
use borrow.Author.Tests.{ltb-true, ltb-false}
use Rattle.field.specs.Field.{◌⊕◌, times, cube_root}
use Rattle.field.proofs.Addition.{byte}
use Rattle.layers.specs.State.{column}
use Rattle.stages.specs.Columns.{cell, columns, fill, column_rule}
use Rattle.stages.specs.Stages.{next, previous, by_row, inverse_step}
use Rattle.stages.proofs.ColumnRule.{times-inverse}
use Rattle.stages.proofs.Columns.{length-columns}
use Rattle.stages.proofs.Places.{next_on, next_around}
use Rattle.stages.proofs.Steps.{unrotated-fill}
use Rattle.stages.proofs.Written.{put_column, ruled, upto, unwritten, column_put}

-- c + 1 times the sum of a column
pub sum_back : (x y z : ℕ) → x < 256 → y < 256 → z < 256 → times cube_root (x ⊕ (y ⊕ z)) ⊕ (x ⊕ (y ⊕ z)) ≡ times (cube_root ⊕ 1) (x ⊕ (y ⊕ z))
sum_back x y z hx hy hz = times-inverse (x ⊕ (y ⊕ z)) (byte x (y ⊕ z) hx (byte y z hy hz))

-- column j after the column rule with c + 1
abbrev pub ruled_back : List ℕ → ℕ → List ℕ
ruled_back k j = column_rule (cube_root ⊕ 1) 1 (column (λ i. cell k i j))

-- the inverse step in one pass: what it has in row i, column j
abbrev pub stepped_back : ℕ → List ℕ → ℕ → ℕ → ℕ
stepped_back n k i j = ruled (cube_root ⊕ 1) (cell k) i (by_row i j (previous n j) (next n j))

pub back_once : (n : ℕ) (k : List ℕ) → inverse_step n k ≡ fill n (stepped_back n k)
unfolding inverse_step column_rule
back_once n k = unrotated-fill n (ruled (cube_root ⊕ 1) (cell k))

-- all columns written
pub all_back : (t j : ℕ) (k out : List ℕ) → out ≡ upto (stepped_back (2 * t) k) j k → j ≡ 2 * t → out ≡ inverse_step (2 * t) k ++ drop (6 * t) k
all_back t j k out e ej =
    let six : 3 * (2 * t) ≡ 6 * t = omega arith in
    e
    ∙ ap (λ (m : ℕ). upto (stepped_back (2 * t) k) m k) ej
    ∙ ap₂ ◌++◌ (sym (back_once (2 * t) k)) (ap (λ (m : ℕ). drop m k) six)

pub length-inverse : (n : ℕ) (k : List ℕ) → length (inverse_step n k) ≡ 3 * n
length-inverse n k = ap length (back_once n k) ∙ length-columns (stepped_back n k) 0 n

module _ (n : ℕ) (k out : List ℕ) (j : ℕ) (h : j < n) (e : out ≡ upto (stepped_back n k) j k) where
  unwritten_column : (m : ℕ) → j ≤ m → ruled_back out m ≡ ruled_back k m
  unwritten_column m l =
      let p : (i : ℕ) → cell out i m ≡ cell k i m = λ i. unwritten (stepped_back n k) j k out (i + 3 * m) e (omega arith) in
      λ t. column_rule (cube_root ⊕ 1) 1 (p 0 t ∷ p 1 t ∷ p 2 t ∷ [])

  pub read-after : (first : List ℕ) → first ≡ ruled_back k 0 → cond (ltb (j + 1) n) (ruled_back out (j + 1)) first ≡ ruled_back k (next n j)
  read-after first ef = by (ltb (j + 1) n) refl
    where
      by : (b : Bool) → ltb (j + 1) n ≡ b → cond b (ruled_back out (j + 1)) first ≡ ruled_back k (next n j)
      by true t = unwritten_column (j + 1) (omega arith) ∙ ap (ruled_back k) (next_on n j (ltb-true (j + 1) n t))
      by false t = ef ∙ ap (ruled_back k) (next_around n j h (ltb-false (j + 1) n t))

  -- one more column: row 0 its own, row 1 of the one before it, row 2 of the one after it
  pub column-back : (before here after : List ℕ) → 3 * j + 2 < length k
      → before ≡ ruled_back k (previous n j) → here ≡ ruled_back k (j % n) → after ≡ ruled_back k (next n j)
      → put_column out j (get_or here 0 0) (get_or before 1 0) (get_or after 2 0) ≡ upto (stepped_back n k) (j + 1) k
  unfolding column_rule columns
  column-back before here after l eb eh ea =
      column_put (stepped_back n k) j k out l e _ _ _
      (ap (λ (c : List ℕ). get_or c 0 0) eh ∙ ap (λ (m : ℕ). ruled (cube_root ⊕ 1) (cell k) 0 m) (mod-eq_of_lt h))
      (ap (λ (c : List ℕ). get_or c 1 0) eb)
      (ap (λ (c : List ℕ). get_or c 2 0) ea)
