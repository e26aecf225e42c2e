-- A holder in lent bytes: what is read from 26 of them and from others, and that reading and writing undo each other.
use mathlib.Core.Path.{◌≡◌, refl, sym, ap, ◌∙◌}
use mathlib.Core.Bool.{Bool, true, false, cond, false≢true}
use mathlib.Core.List.{List, [], ◌∷◌, ◌++◌, append-nil}
use Prim.Native.Nat.{ℕ, ◌-◌, ◌≤◌}
use native.Mathlib.Omega.{arith}
use lib.Dec.{eqb}
use lib.ListN.{length, take, drop, replicate, length-drop}
use lib.Seq.{take_all}
use borrow.Author.Tests.{eq-eqb, ne_eqb, eqb-true}
use Rattle.stages.specs.Columns.{padded}
use Rattle.holder.specs.declared.Holder.{Holder}
use Rattle.holder.specs.Holder.{whole, blank}
use Rattle.sizes.proofs.Keys.{a_key}
use Rattle.holder.proofs.Whole.{a_whole, turn-held}
use Rattle.holder_bytes.specs.HolderBytes.{holder_length, parts_of, holder_of, holder_bytes}

pub read-long : (b : List ℕ) → length b ≡ holder_length → holder_of b ≡ parts_of b
unfolding holder_of
read-long b e = ap (λ (x : Bool). cond x (parts_of b) blank) (eq-eqb (length b) holder_length e)

pub read_other : (b : List ℕ) → (length b ≡ holder_length → ⊥) → holder_of b ≡ blank
unfolding holder_of
read_other b n = ap (λ (x : Bool). cond x (parts_of b) blank) (ne_eqb (length b) holder_length n)

pub blank_broken : whole blank ≡ false
unfolding whole blank
blank_broken = refl

-- bytes that hold a whole holder are 26
pub whole_long : (b : List ℕ) → whole (holder_of b) ≡ true → length b ≡ holder_length
unfolding holder_of
whole_long b w = by (eqb (length b) holder_length) refl w
  where
    by : (x : Bool) → eqb (length b) holder_length ≡ x → whole (cond x (parts_of b) blank) ≡ true → length b ≡ holder_length
    by true e w = eqb-true _ _ e
    by false e w = absurd (false≢true (sym blank_broken ∙ w))

-- the stage's bytes as the code reads them
pub stage-fits : (b : List ℕ) → length b ≡ holder_length → length (take (length b - 2) (drop 2 b)) ≡ 24
stage-fits b e =
    let l : length (drop 2 b) ≡ length b - 2 = length-drop 2 b in
    ap length (take_all (length b - 2) (drop 2 b) (omega (arith, l))) ∙ l ∙ omega (arith, e)

pub stage_read : (b : List ℕ) → length b ≡ holder_length → padded (take (length b - 2) (drop 2 b)) ≡ drop 2 b
unfolding padded
stage_read b e =
    let s = take (length b - 2) (drop 2 b) in
    ap (λ (n : ℕ). s ++ replicate (24 - n) 0) (stage-fits b e) ∙ append-nil s ∙ take_all (length b - 2) (drop 2 b) (omega (arith, length-drop 2 b))

-- ---- written
pub length-bytes : (h : Holder) → length h.bytes ≡ 24 → length (holder_bytes h) ≡ holder_length
unfolding holder_bytes
length-bytes h e = omega (arith, e)

-- what is written of a whole holder before its stage fits bytes
pub small : (h : Holder) → whole h ≡ true → (h.length ≤ 24) × (h.number ≤ 24)
small h e =
    let w = a_whole h e in
    let l = (a_key _ w.key).most in
    (l, omega (arith, w.below, turn-held h w, l))

-- ---- reading and writing
pub read-written : (h : Holder) → length h.bytes ≡ 24 → holder_of (holder_bytes h) ≡ h
unfolding holder_bytes
read-written h e = read-long (holder_bytes h) (length-bytes h e)

pub written_read : (b : List ℕ) → length b ≡ holder_length → holder_bytes (holder_of b) ≡ b
unfolding holder_bytes
written_read [] e = let z : ⊥ = omega (arith, e) in absurd z
written_read (a ∷ []) e = let z : ⊥ = omega (arith, e) in absurd z
written_read (l ∷ n ∷ b) e = ap holder_bytes (read-long (l ∷ n ∷ b) e)

-- ---- calls on lent bytes
-- there is room for what bytes that hold a whole holder are given back
pub room : (lent : List ℕ) → whole (holder_of lent) ≡ true → holder_length ≤ length lent
room lent w = omega (arith, whole_long lent w)
