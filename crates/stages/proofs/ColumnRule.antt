-- The column rule: what it makes of a stage, and that c and c + 1 undo each other.
use mathlib.Core.Path.{◌≡◌, sym, ap, ap₂, ◌∙◌, subst}
use mathlib.Core.List.{List}
use Prim.Native.Nat.{ℕ, ◌<◌}
use lib.Dec.{T, lit<}
use lib.Bits.{bit_xor}
use Rattle.field.specs.Field.{◌⊕◌, times, product, reduced, cube_root}
use Rattle.field.proofs.Addition.{assoc, comm, left_comm, cancel, self, zero_right, byte}
use Rattle.field.proofs.Linear.{Linear, same, agree_bytes, times-left, times-right}
use Rattle.field.proofs.Multiplication.{times_byte, one_times}
use Rattle.stages.specs.Columns.{cell, fill, IsStage, filled, rule_byte, column_rule}
use Rattle.stages.proofs.Columns.{fill_path, cell-fill}

pub rule_fill : (m n : ℕ) (f : ℕ → ℕ → ℕ) → column_rule m n (fill n f) ≡ fill n (λ i j. rule_byte m (f i j) (f 0 j) (f 1 j) (f 2 j))
unfolding column_rule
rule_fill m n f =
    let k = fill n f in
    fill_path n (λ i j. rule_byte m (cell k i j) (cell k 0 j) (cell k 1 j) (cell k 2 j)) (λ i j. rule_byte m (f i j) (f 0 j) (f 1 j) (f 2 j))
    (λ i j hi hj. ap₂ bit_xor (cell-fill n f i j hi hj)
    (ap (times m) (ap₂ bit_xor (cell-fill n f 0 j (lit< tt) hj) (ap₂ bit_xor (cell-fill n f 1 j (lit< tt) hj) (cell-fill n f 2 j (lit< tt) hj)))))

-- ---- the rule makes a stage of a stage
rule_byte_byte : (m x a b d : ℕ) → m < 256 → x < 256 → a < 256 → b < 256 → d < 256 → rule_byte m x a b d < 256
rule_byte_byte m x a b d hm hx ha hb hd = byte x (times m (a ⊕ (b ⊕ d))) hx (times_byte m (a ⊕ (b ⊕ d)) hm (byte a (b ⊕ d) ha (byte b d hb hd)))

pub rule_stage : (m n : ℕ) {k : List ℕ} → m < 256 → IsStage n k → IsStage n (column_rule m n k)
rule_stage m n hm (filled f h) = subst (IsStage n) (sym (rule_fill m n f))
    (filled (λ i j. rule_byte m (f i j) (f 0 j) (f 1 j) (f 2 j))
    (λ i j. rule_byte_byte m (f i j) (f 0 j) (f 1 j) (f 2 j) hm (h i j) (h 0 j) (h 1 j) (h 2 j)))

-- ---- the rule with w undoes that with m
abbrev Undoes : ℕ → ℕ → Type 0
Undoes w m = (s : ℕ) → s < 256 → times w (s ⊕ times m s) ≡ times m s

-- it is so for all sums if it is so at the powers of two
undoes : (w m : ℕ) → T (same (λ s. times w (s ⊕ times m s)) (times m)) → Undoes w m
undoes w m t = agree_bytes (λ s. times w (s ⊕ times m s)) (times m) linear (times-right m) t
  where
    linear : Linear (λ s. times w (s ⊕ times m s))
    linear x y = simp (times-right, assoc, left_comm)

pub undoes_c : Undoes (cube_root ⊕ 1) cube_root
unfolding same times product reduced
undoes_c = undoes (cube_root ⊕ 1) cube_root tt

pub undoes_inverse : Undoes cube_root (cube_root ⊕ 1)
unfolding same times product reduced
undoes_inverse = undoes cube_root (cube_root ⊕ 1) tt

-- the sum of a column after the rule
column_sum : (s x y z : ℕ) → (x ⊕ s) ⊕ ((y ⊕ s) ⊕ (z ⊕ s)) ≡ (x ⊕ (y ⊕ z)) ⊕ s
column_sum s x y z = simp (assoc, left_comm, comm, cancel)

rule_byte_undone : (m w : ℕ) → Undoes w m → (x a b d : ℕ) → a ⊕ (b ⊕ d) < 256
    → rule_byte w (rule_byte m x a b d) (rule_byte m a a b d) (rule_byte m b a b d) (rule_byte m d a b d) ≡ x
rule_byte_undone m w u x a b d h =
    let s = times m (a ⊕ (b ⊕ d)) in
    ap (λ (y : ℕ). rule_byte m x a b d ⊕ times w y) (column_sum s a b d)
    ∙ ap (bit_xor (rule_byte m x a b d)) (u (a ⊕ (b ⊕ d)) h)
    ∙ assoc x s s ∙ ap (bit_xor x) (self s) ∙ zero_right x

pub rule_undone : (m w n : ℕ) → Undoes w m → {k : List ℕ} → IsStage n k → column_rule w n (column_rule m n k) ≡ k
rule_undone m w n u (filled f h) =
    ap (column_rule w n) (rule_fill m n f) ∙ rule_fill w n (λ i j. rule_byte m (f i j) (f 0 j) (f 1 j) (f 2 j))
    ∙ fill_path n _ f (λ i j hi hj.
    rule_byte_undone m w u (f i j) (f 0 j) (f 1 j) (f 2 j) (byte (f 0 j) (f 1 j ⊕ f 2 j) (h 0 j) (byte (f 1 j) (f 2 j) (h 1 j) (h 2 j))))

-- c + 1 times a byte
pub times-inverse : (s : ℕ) → s < 256 → times cube_root s ⊕ s ≡ times (cube_root ⊕ 1) s
times-inverse s h = sym (times-left s cube_root 1 ∙ ap (bit_xor (times cube_root s)) (one_times s h))
