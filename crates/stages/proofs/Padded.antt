-- A stage in 24 bytes: its cells are the stage's, so a step over it is a step over the stage.
use mathlib.Core.Path.{◌≡◌, refl, sym, ap, ap₂, ◌∙◌}
use mathlib.Core.List.{List, [], ◌∷◌, ◌++◌}
use Prim.Native.Nat.{ℕ, ◌+◌, ◌-◌, ◌*◌, ◌≤◌, ◌<◌}
use native.Mathlib.Omega.{arith}
use lib.ListN.{length, drop, replicate, length-append, length-replicate, get_or-append}
use lib.Seq.{drop_at}
use lib.Dec.{lit<}
use lib.Bits.{bit_xor}
use Rattle.field.specs.Field.{◌⊕◌, cube_root}
use Rattle.layers.specs.State.{column}
use Rattle.stages.specs.Columns.{cell, IsStage, filled, plus, padded, column_rule}
use Rattle.stages.specs.Stages.{next, previous, by_row, moved, linear_step, subkey_byte, subkey_of}
use Rattle.stages.proofs.Columns.{fill_path, length-columns}
use Rattle.stages.proofs.Steps.{in_range, wrap}

pub stage-length : (n : ℕ) {k : List ℕ} → IsStage n k → length k ≡ 3 * n
stage-length n (filled f h) = length-columns f 0 n

pub length-plus : (n : ℕ) (a b : List ℕ) → length (plus n a b) ≡ 3 * n
unfolding plus
length-plus n a b = length-columns (λ i j. cell a i j ⊕ cell b i j) 0 n

pub length_step : (n : ℕ) (k : List ℕ) → length (linear_step n k) ≡ 3 * n
unfolding linear_step column_rule
length_step n k = length-columns _ 0 n

pub length-padded : (k : List ℕ) → length k ≤ 24 → length (padded k) ≡ 24
unfolding padded
length-padded k h = omega (arith, length-append k (replicate (24 - length k) 0), length-replicate {A = ℕ} (24 - length k) 0)

-- two stages that agree at every cell of n columns
abbrev pub Agree : ℕ → List ℕ → List ℕ → Type 0
Agree n a b = (i j : ℕ) → i < 3 → j < n → cell a i j ≡ cell b i j

-- what follows a stage is not read
pub front_agrees : (n : ℕ) (k l : List ℕ) → length k ≡ 3 * n → Agree n (k ++ l) k
front_agrees n k l e i j hi hj = get_or-append k l 0 (i + 3 * j) (omega arith)

pub padded_agrees : (n : ℕ) (k : List ℕ) → length k ≡ 3 * n → Agree n (padded k) k
unfolding padded
padded_agrees n k e = front_agrees n k (replicate (24 - length k) 0) e

-- a stage put in the place of another in 24 bytes
pub padded_kept : (m : ℕ) (x y : List ℕ) → length x ≡ m → length y ≡ m → x ++ drop m (padded y) ≡ padded x
unfolding padded
padded_kept m x y ex ey =
    ap (λ (l : List ℕ). x ++ l) (drop_at y (replicate (24 - length y) 0) m ey ∙ ap (λ (n : ℕ). replicate (24 - n) 0) (ey ∙ sym ex))

pub plus_agrees : (n : ℕ) (a b x y : List ℕ) → Agree n a x → Agree n b y → plus n a b ≡ plus n x y
unfolding plus
plus_agrees n a b x y p q =
    fill_path n (λ i j. cell a i j ⊕ cell b i j) (λ i j. cell x i j ⊕ cell y i j) (λ i j hi hj. ap₂ bit_xor (p i j hi hj) (q i j hi hj))

pub plus-padded : (n : ℕ) (k a : List ℕ) → length k ≡ 3 * n → plus n (padded k) a ≡ plus n k a
plus-padded n k a e = plus_agrees n (padded k) a k a (padded_agrees n k e) (λ i j hi hj. refl)

pub step_agrees : (n : ℕ) (a b : List ℕ) → Agree n a b → linear_step n a ≡ linear_step n b
unfolding linear_step moved
step_agrees n a b p =
    ap (column_rule cube_root n)
    (fill_path n (λ i j. cell a i (by_row i j (next n j) (previous n j))) (λ i j. cell b i (by_row i j (next n j) (previous n j)))
    (λ i j hi hj.
    p i (by_row i j (next n j) (previous n j)) hi (in_range n i j (next n j) (previous n j) hj (wrap n j (j + 1) hj) (wrap n j (j + (n - 1)) hj))))

-- a step over a stage and what follows it
pub step_kept : (t : ℕ) (k l : List ℕ) → length k ≡ 3 * (2 * t) → linear_step (2 * t) (k ++ l) ++ drop (6 * t) (k ++ l) ≡ linear_step (2 * t) k ++ l
step_kept t k l e =
    let e' : 3 * (2 * t) ≡ 6 * t = omega arith in
    ap₂ ◌++◌ (step_agrees (2 * t) (k ++ l) k (front_agrees (2 * t) k l e)) (drop_at k l (6 * t) (e ∙ e'))

pub plus_kept : (t : ℕ) (k l a : List ℕ) → length k ≡ 3 * (2 * t) → plus (2 * t) (k ++ l) a ++ drop (6 * t) (k ++ l) ≡ plus (2 * t) k a ++ l
plus_kept t k l a e =
    let e' : 3 * (2 * t) ≡ 6 * t = omega arith in
    ap₂ ◌++◌ (plus_agrees (2 * t) (k ++ l) a k a (front_agrees (2 * t) k l e) (λ i j hi hj. refl)) (drop_at k l (6 * t) (e ∙ e'))

-- a step over a stage in 24 bytes
module _ (t : ℕ) (x k : List ℕ) (e : k ≡ padded x) (l : length x ≡ 3 * (2 * t)) where
  sixes : 3 * (2 * t) ≡ 6 * t
  sixes = omega arith

  pub next-held : (a : List ℕ) → linear_step (2 * t) (plus (2 * t) k a) ++ drop (6 * t) k ≡ padded (linear_step (2 * t) (plus (2 * t) x a))
  next-held a =
      ap (λ (y : List ℕ). linear_step (2 * t) (plus (2 * t) y a) ++ drop (6 * t) y) e
      ∙ padded_kept (6 * t) (linear_step (2 * t) (plus (2 * t) (padded x) a)) x (length_step (2 * t) (plus (2 * t) (padded x) a) ∙ sixes) (l ∙ sixes)
      ∙ ap (λ (y : List ℕ). padded (linear_step (2 * t) y)) (plus-padded (2 * t) x a l)

-- a subkey reads the first four columns
pub subkey_agrees : (n : ℕ) (a b : List ℕ) → 4 ≤ n → Agree n a b → subkey_of a ≡ subkey_of b
subkey_agrees n a b h p k = col 0 (omega arith) ∷ col 1 (omega arith) ∷ col 2 (omega arith) ∷ col 3 (omega arith) ∷ []
  where
    col : (j : ℕ) → j < n → List ℕ
    col j l = column (λ i. subkey_byte i (p 0 j (lit< tt) l k) (p 1 j (lit< tt) l k) (p 2 j (lit< tt) l k))
