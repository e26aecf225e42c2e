-- The laws of the linear step: it and its inverse undo each other, it keeps sums, and it makes a stage of a stage.
use mathlib.Core.Path.{◌≡◌, refl, sym, ap, ap₂, ◌∙◌, subst}
use mathlib.Core.List.{List}
use Prim.Native.Nat.{ℕ, zero, suc, ◌+◌, ◌-◌, ◌%◌, ◌<◌}
use native.Mathlib.Nat.{mod-lt, mod-add-mod, add-mod_right, mod-eq_of_lt}
use native.Mathlib.Omega.{arith}
use lib.Dec.{lit<}
use lib.Bits.{bit_xor}
use Rattle.field.specs.Field.{◌⊕◌, cube_root}
use Rattle.field.proofs.Addition.{assoc, left_comm, self, zero_right, byte}
use Rattle.field.proofs.Linear.{times-right}
use Rattle.stages.specs.Columns.{cell, fill, IsStage, filled, plus, rule_byte, column_rule}
use Rattle.stages.specs.Stages.{next, previous, by_row, moved, rotated, unrotated, linear_step, inverse_step}
use Rattle.stages.proofs.Columns.{fill_path, cell-fill}
use Rattle.stages.proofs.ColumnRule.{rule_fill, rule_stage, undoes_c, undoes_inverse, rule_undone}

-- ---- the operations, on filled lists
pub moved-fill : (n : ℕ) (s f : ℕ → ℕ → ℕ) → ((i j : ℕ) → i < 3 → j < n → s i j < n)
    → moved n s (fill n f) ≡ fill n (λ i j. f i (s i j))
unfolding moved
moved-fill n s f h = fill_path n (λ i j. cell (fill n f) i (s i j)) (λ i j. f i (s i j)) (λ i j hi hj. cell-fill n f i (s i j) hi (h i j hi hj))

pub plus-fill : (n : ℕ) (f g : ℕ → ℕ → ℕ) → plus n (fill n f) (fill n g) ≡ fill n (λ i j. f i j ⊕ g i j)
unfolding plus
plus-fill n f g = fill_path n (λ i j. cell (fill n f) i j ⊕ cell (fill n g) i j) (λ i j. f i j ⊕ g i j)
    (λ i j hi hj. ap₂ bit_xor (cell-fill n f i j hi hj) (cell-fill n g i j hi hj))

-- ---- the rotations
turn : {n : ℕ} (a b : ℕ) → a + b ≡ n → (j : ℕ) → j < n → ((j + a) % n + b) % n ≡ j
turn {n} a b e j h =
    mod-add-mod (j + a) n b ∙ ap (λ (x : ℕ). x % n) e' ∙ add-mod_right j n ∙ mod-eq_of_lt h
  where
    e' : j + a + b ≡ j + n
    e' = omega arith

on_back : (n j : ℕ) → j < n → previous n (next n j) ≡ j
on_back n j h = turn 1 (n - 1) (omega arith) j h

back_on : (n j : ℕ) → j < n → next n (previous n j) ≡ j
back_on n j h = turn (n - 1) 1 (omega arith) j h

pub in_range : (n i j a b : ℕ) → j < n → a < n → b < n → by_row i j a b < n
in_range n zero j a b hj ha hb = hj
in_range n (suc zero) j a b hj ha hb = ha
in_range n (suc (suc i)) j a b hj ha hb = hb

pub wrap : (n j x : ℕ) → j < n → x % n < n
wrap n j x h = mod-lt x (omega arith)

-- the column that a row's byte comes from, in a stage rotated, and rotated back
abbrev on : ℕ → ℕ → ℕ → ℕ
on n i j = by_row i j (next n j) (previous n j)

abbrev back : ℕ → ℕ → ℕ → ℕ
back n i j = by_row i j (previous n j) (next n j)

pub rotated-fill : (n : ℕ) (f : ℕ → ℕ → ℕ) → rotated n (fill n f) ≡ fill n (λ i j. f i (on n i j))
rotated-fill n f = moved-fill n (on n) f
    (λ i j hi hj. in_range n i j (next n j) (previous n j) hj (wrap n j (j + 1) hj) (wrap n j (j + (n - 1)) hj))

pub unrotated-fill : (n : ℕ) (f : ℕ → ℕ → ℕ) → unrotated n (fill n f) ≡ fill n (λ i j. f i (back n i j))
unrotated-fill n f = moved-fill n (back n) f
    (λ i j hi hj. in_range n i j (previous n j) (next n j) hj (wrap n j (j + (n - 1)) hj) (wrap n j (j + 1) hj))

unrotate_row : (n : ℕ) (f : ℕ → ℕ → ℕ) (i j : ℕ) → j < n → f i (on n i (back n i j)) ≡ f i j
unrotate_row n f zero j h = refl
unrotate_row n f (suc zero) j h = ap (f 1) (back_on n j h)
unrotate_row n f (suc (suc i)) j h = ap (f (suc (suc i))) (on_back n j h)

rotate_row : (n : ℕ) (f : ℕ → ℕ → ℕ) (i j : ℕ) → j < n → f i (back n i (on n i j)) ≡ f i j
rotate_row n f zero j h = refl
rotate_row n f (suc zero) j h = ap (f 1) (on_back n j h)
rotate_row n f (suc (suc i)) j h = ap (f (suc (suc i))) (back_on n j h)

pub rotated-stage : (n : ℕ) {k : List ℕ} → IsStage n k → IsStage n (rotated n k)
rotated-stage n (filled f h) = subst (IsStage n) (sym (rotated-fill n f)) (filled (λ i j. f i (on n i j)) (λ i j. h i (on n i j)))

pub unrotated-stage : (n : ℕ) {k : List ℕ} → IsStage n k → IsStage n (unrotated n k)
unrotated-stage n (filled f h) = subst (IsStage n) (sym (unrotated-fill n f)) (filled (λ i j. f i (back n i j)) (λ i j. h i (back n i j)))

pub plus-stage : (n : ℕ) {a b : List ℕ} → IsStage n a → IsStage n b → IsStage n (plus n a b)
plus-stage n (filled f h) (filled g l) = subst (IsStage n) (sym (plus-fill n f g))
    (filled (λ i j. f i j ⊕ g i j) (λ i j. byte (f i j) (g i j) (h i j) (l i j)))

pub step_stage : (n : ℕ) {k : List ℕ} → IsStage n k → IsStage n (linear_step n k)
unfolding linear_step
step_stage n h = rule_stage cube_root n (lit< tt) (rotated-stage n h)

pub inverse_step-stage : (n : ℕ) {k : List ℕ} → IsStage n k → IsStage n (inverse_step n k)
unfolding inverse_step
inverse_step-stage n h = unrotated-stage n (rule_stage (cube_root ⊕ 1) n (lit< tt) h)

-- ---- inverse laws
pub unrotated-rotated : (n : ℕ) {k : List ℕ} → IsStage n k → unrotated n (rotated n k) ≡ k
unrotated-rotated n (filled f h) =
    ap (unrotated n) (rotated-fill n f) ∙ unrotated-fill n (λ i j. f i (on n i j))
    ∙ fill_path n _ f (λ i j hi hj. unrotate_row n f i j hj)

pub rotated-unrotated : (n : ℕ) {k : List ℕ} → IsStage n k → rotated n (unrotated n k) ≡ k
rotated-unrotated n (filled f h) =
    ap (rotated n) (unrotated-fill n f) ∙ rotated-fill n (λ i j. f i (back n i j))
    ∙ fill_path n _ f (λ i j hi hj. rotate_row n f i j hj)

pub inverse_step_lem : (n : ℕ) {k : List ℕ} → IsStage n k → inverse_step n (linear_step n k) ≡ k
unfolding linear_step inverse_step
inverse_step_lem n h = ap (unrotated n) (rule_undone cube_root (cube_root ⊕ 1) n undoes_c (rotated-stage n h)) ∙ unrotated-rotated n h

pub step_inverse : (n : ℕ) {k : List ℕ} → IsStage n k → linear_step n (inverse_step n k) ≡ k
unfolding linear_step inverse_step
step_inverse n h =
    ap (column_rule cube_root n) (rotated-unrotated n (rule_stage (cube_root ⊕ 1) n (lit< tt) h))
    ∙ rule_undone (cube_root ⊕ 1) cube_root n undoes_inverse h

-- ---- linearity
rule_plus : (c n : ℕ) {a b : List ℕ} → IsStage n a → IsStage n b → column_rule c n (plus n a b) ≡ plus n (column_rule c n a) (column_rule c n b)
rule_plus c n (filled f h) (filled g l) =
    ap (column_rule c n) (plus-fill n f g) ∙ rule_fill c n (λ i j. f i j ⊕ g i j)
    ∙ fill_path n _ _ (λ i j hi hj. rule_sum (f i j) (g i j) (f 0 j) (g 0 j) (f 1 j) (g 1 j) (f 2 j) (g 2 j))
    ∙ sym (ap₂ (plus n) (rule_fill c n f) (rule_fill c n g)
    ∙ plus-fill n (λ i j. rule_byte c (f i j) (f 0 j) (f 1 j) (f 2 j)) (λ i j. rule_byte c (g i j) (g 0 j) (g 1 j) (g 2 j)))
  where
    rule_sum : (x x' a a' b b' e e' : ℕ)
        → rule_byte c (x ⊕ x') (a ⊕ a') (b ⊕ b') (e ⊕ e') ≡ rule_byte c x a b e ⊕ rule_byte c x' a' b' e'
    rule_sum x x' a a' b b' e e' = simp (times-right, assoc, left_comm)

rotated-plus : (n : ℕ) {a b : List ℕ} → IsStage n a → IsStage n b → rotated n (plus n a b) ≡ plus n (rotated n a) (rotated n b)
rotated-plus n (filled f h) (filled g l) =
    ap (rotated n) (plus-fill n f g) ∙ rotated-fill n (λ i j. f i j ⊕ g i j)
    ∙ sym (ap₂ (plus n) (rotated-fill n f) (rotated-fill n g) ∙ plus-fill n (λ i j. f i (on n i j)) (λ i j. g i (on n i j)))

pub step_plus : (n : ℕ) {a b : List ℕ} → IsStage n a → IsStage n b → linear_step n (plus n a b) ≡ plus n (linear_step n a) (linear_step n b)
unfolding linear_step
step_plus n h l = ap (column_rule cube_root n) (rotated-plus n h l) ∙ rule_plus cube_root n (rotated-stage n h) (rotated-stage n l)

-- ---- sums of stages
pub plus_assoc : (n : ℕ) {a b c : List ℕ} → IsStage n a → IsStage n b → IsStage n c → plus n (plus n a b) c ≡ plus n a (plus n b c)
plus_assoc n (filled f h) (filled g l) (filled e m) =
    ap (λ (x : List ℕ). plus n x (fill n e)) (plus-fill n f g) ∙ plus-fill n (λ i j. f i j ⊕ g i j) e
    ∙ fill_path n _ _ (λ i j hi hj. assoc (f i j) (g i j) (e i j))
    ∙ sym (ap (plus n (fill n f)) (plus-fill n g e) ∙ plus-fill n f (λ i j. g i j ⊕ e i j))

pub plus_undone : (n : ℕ) {a b : List ℕ} → IsStage n a → IsStage n b → plus n (plus n a b) b ≡ a
plus_undone n (filled f h) (filled g l) =
    ap (λ (x : List ℕ). plus n x (fill n g)) (plus-fill n f g) ∙ plus-fill n (λ i j. f i j ⊕ g i j) g
    ∙ fill_path n _ f (λ i j hi hj. assoc (f i j) (g i j) (g i j) ∙ ap (bit_xor (f i j)) (self (g i j)) ∙ zero_right (f i j))
