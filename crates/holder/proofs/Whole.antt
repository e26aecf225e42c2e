-- Whole holders: what the test says of one, and that steps keep it.
use mathlib.Core.Path.{◌≡◌, sym, ap, ◌∙◌}
use mathlib.Core.Bool.{Bool, true, ◌&&◌}
use mathlib.Core.List.{List, ◌++◌}
use Prim.Native.Nat.{ℕ, zero, suc, ◌+◌, ◌*◌, ◌<◌}
use native.Mathlib.Numerals.{add-one}
use native.Mathlib.Omega.{arith}
use lib.Dec.{ltb}
use lib.ListN.{length, drop}
use borrow.Author.Tests.{ltb-true, lt-ltb}
use Rattle.basics.proofs.Tests.{and_first, and_second}
use Rattle.sizes.specs.Sizes.{Sized, key_length, t_of, turn}
use Rattle.stages.specs.Columns.{padded, column_rule}
use Rattle.stages.specs.Stages.{linear_step, stage_after, stage_before}
use Rattle.stages.proofs.Columns.{length-columns}
use Rattle.sizes.proofs.Keys.{a_key}
use Rattle.stages.proofs.Keys.{key-length, length-stage}
use Rattle.stages.proofs.Padded.{length-plus}
use Rattle.basics.specs.Repeated.{repeated}
use Rattle.cycle.specs.Cycle.{following, preceding}
use Rattle.cycle.proofs.Numbers.{following-below, preceding-below}
use Rattle.holder.specs.declared.Holder.{Holder}
use Rattle.holder.specs.declared.Way.{Way}
use Rattle.holder.specs.declared.Way.TheVariants.{Forward, Back}
use Rattle.byte_slices.specs.Slices.{all_zero}
use Rattle.holder.specs.Holder.{t_held, whole, holder_at, onward, backward, stepped}
use Rattle.holder.proofs.Zeros.{padded-zeros, zeros_kept}

pub record Whole (h : Holder) : Type 0 where
  pub key : key_length h.length ≡ true
  pub below : h.number < turn (t_held h)
  pub zeros : all_zero (drop h.length h.bytes) ≡ true

pub a_whole : (h : Holder) → whole h ≡ true → Whole h
unfolding whole
a_whole h e =
    let n = ltb h.number (turn (t_held h)) in
    let z = all_zero (drop h.length h.bytes) in
    let r = and_second (key_length h.length) (n && z) e in
    record { key = and_first (key_length h.length) (n && z) e; below = ltb-true _ _ (and_first n z r); zeros = and_second n z r }

both : (a b c : Bool) → a ≡ true → b ≡ true → c ≡ true → (a && (b && c)) ≡ true
both a b c ea eb ec = rw (ea, eb, ec)

pub is_whole : (h : Holder) → Whole h → whole h ≡ true
unfolding whole
is_whole h w = both _ _ _ w.key (lt-ltb _ _ w.below) w.zeros

-- a whole holder's t, and that its turn is its length
pub size-held : (h : Holder) → Whole h → Sized (t_held h)
size-held h w = (a_key h.length w.key).sized

pub turn-held : (h : Holder) → Whole h → turn (t_held h) ≡ h.length
turn-held h w = (a_key h.length w.key).is

-- ---- steps
length-after : (t s : ℕ) (k : List ℕ) → length (stage_after t s k) ≡ 3 * (2 * t)
unfolding stage_after linear_step column_rule
length-after t s k = length-columns _ 0 (2 * t)

length_before : (t s : ℕ) (k : List ℕ) → length (stage_before t s k) ≡ 3 * (2 * t)
unfolding stage_before
length_before t s k = length-plus (2 * t) _ _

-- what `cycle` asks of a step, and what a step in place leaves: the zeros past the key
module _ (h : Holder) (e : whole h ≡ true) where
  pub number_asks : Sized (t_held h) × (h.number < turn (t_held h))
  number_asks = let w = a_whole h e in (size-held h w, w.below)

  module _ (l : length h.bytes ≡ 24) (way : Way) (n : ℕ) (b : List ℕ) where
    padded-held : (x : List ℕ) → length x ≡ 3 * (2 * t_held h) → b ≡ x ++ drop (6 * t_held h) h.bytes → b ≡ padded x
    padded-held x ex eb =
        let w = a_whole h e in
        let z = ap (λ (m : ℕ). all_zero (drop m h.bytes)) (turn-held h w) ∙ w.zeros in
        eb ∙ zeros_kept x h.bytes (6 * t_held h) (omega arith) l z

    pub step_on : way ≡ Forward → b ≡ stage_after (t_held h) (h.number + 1) h.bytes ++ drop (6 * t_held h) h.bytes
        → n ≡ following (t_held h) h.number → record { length = h.length; number = n; bytes = b } ≡ stepped way h
    unfolding stepped onward
    step_on ew eb en =
        let p = padded-held _ (length-after (t_held h) (h.number + 1) h.bytes) eb in
        (λ i. record { length = h.length; number = en i; bytes = p i }) ∙ ap (λ (w : Way). stepped w h) (sym ew)

    pub step_back : way ≡ Back → b ≡ stage_before (t_held h) (n + 1) h.bytes ++ drop (6 * t_held h) h.bytes
        → n ≡ preceding (t_held h) h.number → record { length = h.length; number = n; bytes = b } ≡ stepped way h
    unfolding stepped backward
    step_back ew eb en =
        let p = padded-held _ (length_before (t_held h) (n + 1) h.bytes) eb ∙ ap (λ (m : ℕ). padded (stage_before (t_held h) (m + 1) h.bytes)) en in
        (λ i. record { length = h.length; number = en i; bytes = p i }) ∙ ap (λ (w : Way). stepped w h) (sym ew)

onward-whole : (h : Holder) → Whole h → Whole (onward h)
unfolding onward
onward-whole h w =
    let t = t_held h in
    let e : 3 * (2 * t) ≡ h.length = omega (arith, turn-held h w) in
    record { key = w.key; below = following-below t h.number w.below; zeros = padded-zeros _ h.length (length-after t _ h.bytes ∙ e) }

backward-whole : (h : Holder) → Whole h → Whole (backward h)
unfolding backward
backward-whole h w =
    let t = t_held h in
    let e : 3 * (2 * t) ≡ h.length = omega (arith, turn-held h w) in
    record { key = w.key; below = preceding-below t h.number w.below; zeros = padded-zeros _ h.length (length_before t _ h.bytes ∙ e) }

pub step_whole : (way : Way) (h : Holder) → whole h ≡ true → whole (stepped way h) ≡ true
unfolding stepped
step_whole Forward h e = is_whole (onward h) (onward-whole h (a_whole h e))
step_whole Back h e = is_whole (backward h) (backward-whole h (a_whole h e))

pub steps-whole : (way : Way) (m : ℕ) (h : Holder) → whole h ≡ true → whole (repeated m (stepped way) h) ≡ true
steps-whole way zero h w = w
steps-whole way (suc m) h w = step_whole way _ (steps-whole way m h w)

-- one step more, of a list of them
pub step_more : (way : Way) (h at r : Holder) (i : ℕ) → (at ≡ repeated i (stepped way) h) × (whole at ≡ true) → r ≡ stepped way at
    → (r ≡ repeated (i + 1) (stepped way) h) × (whole r ≡ true)
step_more way h at r i (ea, w) e = (
  e ∙ ap (stepped way) ea ∙ ap (λ (m : ℕ). repeated m (stepped way) h) (sym (add-one i)),
  ap whole e ∙ step_whole way at w,
)

-- ---- a holder of a key at a place
pub whole-at : (key : List ℕ) → key_length (length key) ≡ true → (n : ℕ) → n < turn (t_of (length key)) → whole (holder_at key n) ≡ true
whole-at key right n h =
    let e = key-length key right in
    let l = length-stage (t_of (length key)) key e n in
    is_whole (holder_at key n) record { key = right; below = h; zeros = padded-zeros _ (length key) (l ∙ sym e) }
