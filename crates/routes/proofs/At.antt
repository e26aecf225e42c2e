-- Holders of a key at a place: they are whole, steps lead from place to place, and calls answer what they have to.
use mathlib.Core.Path.{◌≡◌, refl, sym, ap, ◌∙◌}
use mathlib.Core.Bool.{true}
use mathlib.Core.List.{List, []}
use Prim.Native.Nat.{ℕ, zero, suc, ◌+◌, ◌*◌, ◌≤◌, ◌<◌}
use native.Mathlib.Omega.{arith}
use lib.ListN.{length}
use borrow.Author.Tests.{lt-ltb, le-ltb}
use Rattle.refusal.proofs.Tries.{first_passes, first_holds, none-given}
use Rattle.refusal.proofs.Answers.{answer-done}
use Rattle.block_bytes.specs.Blocks.{bytes_of}
use Rattle.basics.specs.Bytes.{AreBytes}
use Rattle.sizes.specs.Sizes.{key_length, t_of, turn}
use Rattle.stages.specs.Columns.{IsStage, plus, padded}
use Rattle.stages.specs.Stages.{linear_step, stage, step_constant, stage_after, stage_before, subkey_of}
use Rattle.stages.proofs.Columns.{as_stage}
use Rattle.sizes.proofs.Keys.{a_key}
use Rattle.stages.proofs.Keys.{key-length, length-stage}
use Rattle.stages.proofs.Padded.{padded_agrees, plus-padded, subkey_agrees}
use Rattle.basics.specs.Repeated.{repeated}
use Rattle.cycle.specs.Cycle.{following, preceding}
use Rattle.cycle.proofs.Agree.{inverse_agrees}
use Rattle.cycle.proofs.Around.{after-key, before-key}
use Rattle.holder.specs.declared.Way.{Way}
use Rattle.holder.specs.declared.Way.TheVariants.{Forward, Back}
use Rattle.holder.specs.Holder.{holder_at, blank, onward, backward, stepped}
use Rattle.holder_walk.specs.Walk.{ring_distance, way_to, walked, walk_tries, walk_number, walk_holder, walk_steps, walk_way}
use Rattle.holder_from_key.specs.FromKey.{make_tries, make_number, made_holder, straight_tries, straight_number, straight_holder}
use Rattle.holder_steps.specs.Steps.{holder_tries, holder_number, step_holder, no_subkey, subkey_held}
use Rattle.holder.proofs.Whole.{whole-at}
use Rattle.routes.proofs.Ring.{number_to, numbers_below, arrives}

-- ---- steps over a stage in 24 bytes
padded-after : (t s : ℕ) (k : List ℕ) → length k ≡ 3 * (2 * t) → stage_after t s (padded k) ≡ stage_after t s k
unfolding stage_after
padded-after t s k e = ap (linear_step (2 * t)) (plus-padded (2 * t) k (step_constant t s) e)

padded-before : (t s : ℕ) (k : List ℕ) → length k ≡ 3 * (2 * t) → stage_before t s (padded k) ≡ stage_before t s k
unfolding stage_before
padded-before t s k e = ap (λ (x : List ℕ). plus (2 * t) x (step_constant t s)) (inverse_agrees (2 * t) (padded k) k (padded_agrees (2 * t) k e))

module _ (key : List ℕ) (bytes : AreBytes key) (right : key_length (length key) ≡ true) where
  t : ℕ
  t = t_of (length key)

  is-stage : IsStage (2 * t_of (length key)) key
  is-stage = as_stage (2 * t_of (length key)) key (key-length key right) bytes

  stage-length : (n : ℕ) → length (stage (t_of (length key)) key n) ≡ 3 * (2 * t_of (length key))
  stage-length n = length-stage (t_of (length key)) key (key-length key right) n

  -- ---- steps
  onward-at : (n : ℕ) → n < turn (t_of (length key)) → onward (holder_at key n) ≡ holder_at key (following (t_of (length key)) n)
  unfolding onward t
  onward-at n h i = record {
    length = length key;
    number = following t n;
    bytes = padded ((padded-after t (n + 1) (stage t key n) (stage-length n) ∙ after-key t (a_key (length key) right).sized is-stage n h) i);
  }

  backward-at : (n : ℕ) → n < turn (t_of (length key)) → backward (holder_at key n) ≡ holder_at key (preceding (t_of (length key)) n)
  unfolding backward t
  backward-at n h i = record {
    length = length key;
    number = preceding t n;
    bytes = padded ((padded-before t (preceding t n + 1) (stage t key n) (stage-length n) ∙ before-key t (a_key (length key) right).sized is-stage n h) i);
  }

  step_at : (way : Way) (n : ℕ) → n < turn (t_of (length key)) → stepped way (holder_at key n) ≡ holder_at key (number_to (t_of (length key)) way n)
  unfolding stepped number_to
  step_at Forward n h = onward-at n h
  step_at Back n h = backward-at n h

  pub steps-at : (way : Way) (m n : ℕ) → n < turn (t_of (length key))
      → repeated m (stepped way) (holder_at key n) ≡ holder_at key (repeated m (number_to (t_of (length key)) way) n)
  unfolding t
  steps-at way zero n h = refl
  steps-at way (suc m) n h = ap (stepped way) (steps-at way m n h) ∙ step_at way (repeated m (number_to t way) n) (numbers_below t way m n h)

  -- ---- the calls at a place
  module _ (n : ℕ) (h : n < turn (t_of (length key))) where
    pub not_refused : holder_number (holder_at key n) ≡ 0
    not_refused = first_passes _ [] (whole-at key right n h) ∙ none-given [] tt

    pub step_call : (way : Way) → step_holder way (holder_at key n) ≡ holder_at key (number_to (t_of (length key)) way n)
    unfolding step_holder
    step_call way = sym (answer-done (holder_tries (holder_at key n)) (stepped way (holder_at key n)) (holder_at key n) not_refused) ∙ step_at way n h

    pub subkey_call : subkey_held (holder_at key n) ≡ bytes_of (subkey_of (stage (t_of (length key)) key n))
    unfolding subkey_held t
    subkey_call =
        let k = stage t key n in
        sym (answer-done (holder_tries (holder_at key n)) (bytes_of (subkey_of (padded k))) no_subkey not_refused)
        ∙ ap bytes_of (subkey_agrees (2 * t) (padded k) k (omega (arith, (a_key (length key) right).sized.least))
        (padded_agrees (2 * t) k (stage-length n)))

    module _ (d : ℕ) where
      pub walk-taken : d < turn (t_of (length key)) → walk_number (holder_at key n) d ≡ 0
      walk-taken b = first_passes _ _ (whole-at key right n h) ∙ first_passes _ [] (lt-ltb d (turn (t_of (length key))) b) ∙ none-given [] tt

      pub walk_refused : turn (t_of (length key)) ≤ d → walk_number (holder_at key n) d ≡ 5
      walk_refused b = first_passes _ _ (whole-at key right n h) ∙ first_holds _ [] (le-ltb d (turn (t_of (length key))) b)

      pub walk_call : d < turn (t_of (length key)) → walk_holder (holder_at key n) d ≡ holder_at key d
      unfolding walk_holder walked t
      walk_call b =
          sym (answer-done (walk_tries (holder_at key n) d) (walked (holder_at key n) d) (holder_at key n) (walk-taken b))
          ∙ steps-at (way_to t n d) (ring_distance t n d) n h
          ∙ ap (holder_at key) (arrives t n d h b)

      pub walk_steps_lem : d < turn (t_of (length key)) → walk_steps (holder_at key n) d ≡ ring_distance (t_of (length key)) n d
      unfolding walk_steps
      walk_steps_lem b = sym (answer-done (walk_tries (holder_at key n) d) (ring_distance (t_of (length key)) n d) 0 (walk-taken b))

      pub walk-way : d < turn (t_of (length key)) → walk_way (holder_at key n) d ≡ way_to (t_of (length key)) n d
      unfolding walk_way
      walk-way b = sym (answer-done (walk_tries (holder_at key n) d) (way_to (t_of (length key)) n d) Forward (walk-taken b))

    -- the straight stage
    pub straight-taken : straight_number key n ≡ 0
    straight-taken = first_passes _ _ right ∙ first_passes _ [] (lt-ltb n (turn (t_of (length key))) h) ∙ none-given [] tt

    pub straight_call : straight_holder key n ≡ holder_at key n
    unfolding straight_holder
    straight_call = sym (answer-done (straight_tries (length key) n) (holder_at key n) blank straight-taken)

  -- ---- the holder made
  pub make-taken : make_number key ≡ 0
  make-taken = first_passes _ [] right ∙ none-given [] tt

  pub make_call : made_holder key ≡ holder_at key 0
  unfolding made_holder
  make_call = sym (answer-done (make_tries key) (holder_at key 0) blank make-taken)
