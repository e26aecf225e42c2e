-- The constant of each step: which it is, that it is a stage, and that adding the zero constant leaves what stood there.
use mathlib.Core.Path.{◌≡◌, refl, sym, ap, ◌∙◌}
use mathlib.Core.Bool.{Bool, true, false, cond, ◌&&◌}
use mathlib.Core.List.{List, ◌++◌}
use Prim.Native.Nat.{ℕ, suc, ◌*◌, ◌≤◌, ◌<◌}
use native.Mathlib.Omega.{arith}
use lib.Dec.{ltb, eqb}
use lib.ListN.{length, take, drop, get_or-append, take-append-drop}
use lib.Seq.{length-take-le}
use borrow.Author.Tests.{lt-ltb, le-ltb, eq-eqb, ne_eqb}
use Rattle.field.specs.Field.{◌⊕◌}
use Rattle.field.proofs.Addition.{zero_right}
use Rattle.sizes.specs.Sizes.{turn}
use Rattle.stages.specs.Columns.{cell, fill, IsStage, plus}
use Rattle.stages.specs.Stages.{linear_step, constant, stage, zeros, closing_sum, step_constant, stage_after}
use Rattle.stages.proofs.Columns.{fill_path, cell-fill, refill}
use Rattle.stages.proofs.Stages.{constant-stage, zeros-stage, closing_stage}

-- ---- which it is
-- what is answered where the three tests are known
chosen : (t s : ℕ) (a b c : Bool) → ltb 0 s ≡ a → ltb s (turn t) ≡ b → eqb s (turn t) ≡ c
    → step_constant t s ≡ cond (a && b) (constant t s) (cond c (closing_sum t) (zeros (2 * t)))
unfolding step_constant
chosen t s a b c ea eb ec i = cond (ea i && eb i) (constant t s) (cond (ec i) (closing_sum t) (zeros (2 * t)))

pub inner_constant : (t s : ℕ) → 0 < s → s < turn t → step_constant t s ≡ constant t s
inner_constant t s p h = chosen t s true true (eqb s (turn t)) (lt-ltb 0 s p) (lt-ltb s (turn t) h) refl

pub closing_constant : (t s : ℕ) → s ≡ turn t → step_constant t s ≡ closing_sum t
closing_constant t s e =
    let l = le-ltb s (turn t) (omega (arith, e)) in
    chosen t s (ltb 0 s) (ltb s (turn t)) true refl refl (eq-eqb s (turn t) e)
    ∙ ap (λ (b : Bool). cond (ltb 0 s && b) (constant t s) (closing_sum t)) l
    ∙ neither (ltb 0 s)
  where
    neither : (a : Bool) → cond (a && false) (constant t s) (closing_sum t) ≡ closing_sum t
    neither true = refl
    neither false = refl

pub no_constant_first : (t s : ℕ) → s < turn t → s ≤ 0 → step_constant t s ≡ zeros (2 * t)
no_constant_first t s h z = chosen t s false true false (le-ltb 0 s z) (lt-ltb s (turn t) h) (ne_eqb s (turn t) (λ e. omega (arith, e)))

pub no_constant_past : (t s : ℕ) → turn t < s → step_constant t s ≡ zeros (2 * t)
no_constant_past t s h =
    chosen t s true false false (lt-ltb 0 s (omega arith)) (le-ltb s (turn t) (omega arith)) (ne_eqb s (turn t) (λ e. omega (arith, e)))

-- ---- it is a stage, whatever s is
pub step_constant_stage : (t s : ℕ) → IsStage (2 * t) (step_constant t s)
unfolding step_constant
step_constant_stage t s = by (ltb 0 s && ltb s (turn t)) (eqb s (turn t))
  where
    by : (a c : Bool) → IsStage (2 * t) (cond a (constant t s) (cond c (closing_sum t) (zeros (2 * t))))
    by true c = constant-stage t s
    by false true = closing_stage t
    by false false = zeros-stage (2 * t)

-- ---- the zero constant
-- a stage with what follows it, read cell by cell
front_cells : (n : ℕ) (k : List ℕ) → 3 * n ≤ length k → fill n (cell k) ≡ take (3 * n) k
front_cells n k h =
    let front = take (3 * n) k in
    let l : length front ≡ 3 * n = length-take-le (3 * n) k h in
    fill_path n (cell k) (cell front)
    (λ i j hi hj. ap (λ (x : List ℕ). cell x i j) (sym (take-append-drop (3 * n) k)) ∙ get_or-append front (drop (3 * n) k) 0 _ (omega arith))
    ∙ refill n front l

pub plus_zero_cells : (n : ℕ) (k : List ℕ) → plus n k (zeros n) ≡ fill n (cell k)
unfolding plus zeros
plus_zero_cells n k =
    fill_path n _ (cell k) (λ i j hi hj. ap (λ (x : ℕ). cell k i j ⊕ x) (cell-fill n (λ i j. 0) i j hi hj) ∙ zero_right (cell k i j))

pub plus_zeros_kept : (t : ℕ) (k : List ℕ) → 6 * t ≤ length k → k ≡ plus (2 * t) k (zeros (2 * t)) ++ drop (6 * t) k
plus_zeros_kept t k h =
    let e : 3 * (2 * t) ≡ 6 * t = omega arith in
    sym (take-append-drop (6 * t) k)
    ∙ ap (λ (x : List ℕ). x ++ drop (6 * t) k)
    (ap (λ (m : ℕ). take m k) (sym e)
    ∙ sym (plus_zero_cells (2 * t) k ∙ front_cells (2 * t) k (omega arith)))

-- ---- below the turn the stage after step s is stage s
pub inner_step : (t : ℕ) (key : List ℕ) (s : ℕ) → suc s < turn t → stage t key (suc s) ≡ stage_after t (suc s) (stage t key s)
unfolding stage stage_after
inner_step t key s h = ap (λ (x : List ℕ). linear_step (2 * t) (plus (2 * t) (stage t key s) x)) (sym (inner_constant t (suc s) (omega arith) h))
