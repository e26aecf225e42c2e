-- C calls on the bytes of a key's holder at a place: each answers what it has to and leaves the bytes of the place after it.
use mathlib.Core.Path.{◌≡◌, refl, sym, ap, ap₂, ◌∙◌}
use mathlib.Core.Bool.{true, cond}
use mathlib.Core.List.{List, [], ◌∷◌, ◌++◌}
use Prim.Native.Nat.{ℕ, zero, suc, ◌+◌, ◌≤◌, ◌<◌}
use native.Mathlib.Omega.{arith}
use lib.Dec.{leb}
use lib.ListN.{length, drop}
use borrow.Author.Tests.{lt-ltb, le-leb}
use Rattle.basics.specs.Bytes.{AreBytes}
use Rattle.basics.specs.Repeated.{repeated}
use Rattle.refusal.specs.Tries.{◌unless◌, first, written, answered}
use Rattle.refusal.proofs.Tries.{first_passes, none-given}
use Rattle.refusal.proofs.Answers.{kept, put, put_all}
use Rattle.block_bytes.specs.Blocks.{bytes_of}
use Rattle.sizes.specs.Sizes.{key_length, t_of, turn}
use Rattle.sizes.proofs.Keys.{a_key}
use Rattle.stages.specs.Columns.{padded}
use Rattle.stages.specs.Stages.{stage, subkey_of}
use Rattle.stages.proofs.Keys.{key-length, length-stage}
use Rattle.stages.proofs.Padded.{length-padded}
use Rattle.holder.specs.declared.Holder.{Holder}
use Rattle.holder.specs.declared.Way.{Way}
use Rattle.holder.specs.Holder.{t_held, whole, holder_at}
use Rattle.holder.proofs.Whole.{whole-at}
use Rattle.holder_steps.specs.Steps.{holder_number, step_holder, subkey_held}
use Rattle.holder_walk.specs.Walk.{ring_distance, way_to, walk_number, walk_holder, walk_steps, walk_way}
use Rattle.routes.proofs.Ring.{number_to, numbers_below, full_turn}
use Rattle.routes.proofs.At.{not_refused, step_call, subkey_call, walk-taken, walk_refused, walk_call, walk_steps_lem, walk-way, make_call}
use Rattle.stage_calls.specs.StageCalls.{stage_call_number, stage_call_output}
use Rattle.holder_bytes.specs.HolderBytes.{holder_length, holder_of, holder_bytes}
use Rattle.holder_bytes.proofs.Lent.{length-bytes, read-written}
use Rattle.holder_calls.specs.HolderCalls.{make_call_number, make_call_output, step_call_number, step_call_holder}
use Rattle.holder_walk_call.specs.WalkCall.{way_code, walk_code, walk_call_code, walk_call_holder}
use Rattle.holder_subkey_call.specs.SubkeyCall.{held_subkey_number, held_subkey_output}
use Rattle.holder_call_claims.specs.Claims.{TurnsHome}
use Rattle.holder_call_claims.proofs.Lent.{left_by_lem}

module _ (key : List ℕ) (bytes : AreBytes key) (right : key_length (length key) ≡ true) where
  -- a holder of the key has 24 bytes, and is read from its bytes
  stage_24 : (n : ℕ) → length (holder_at key n).bytes ≡ 24
  stage_24 n =
      let e = key-length key right in
      let l = length-stage (t_of (length key)) key e n in
      length-padded (stage (t_of (length key)) key n) (omega (arith, l, e, (a_key (length key) right).most))

  read_at : (n : ℕ) → holder_of (holder_bytes (holder_at key n)) ≡ holder_at key n
  read_at n = read-written (holder_at key n) (stage_24 n)

  pub length_at : (n : ℕ) → length (holder_bytes (holder_at key n)) ≡ holder_length
  length_at n = length-bytes (holder_at key n) (stage_24 n)

  -- ---- make, on any 26 bytes
  pub make-at : (lent : List ℕ) → length lent ≡ holder_length
      → (make_call_number key lent ≡ 0) × (make_call_output key lent ≡ holder_bytes (holder_at key 0))
  unfolding make_call_output
  make-at lent l =
      let z = first_passes _ _ right ∙ first_passes _ [] (le-leb holder_length (length lent) (omega (arith, l))) ∙ none-given [] tt in
      let h = holder_at key 0 in (
        z,
        ap₂ (λ (n : ℕ) (x : Holder). written n (holder_bytes x) lent) z (make_call key bytes right)
            ∙ sym (put_all 0 (holder_bytes h) lent refl (omega (arith, l, length-bytes h (stage_24 0)))),
      )

  module _ (n : ℕ) (b : n < turn (t_of (length key))) where
    abbrev here : Holder
    here = holder_at key n

    -- ---- steps
    pub step_number : step_call_number (holder_bytes (holder_at key n)) ≡ 0
    step_number = ap holder_number (read_at n) ∙ not_refused key bytes right n b

    pub step_left : (way : Way) → step_call_holder way (holder_bytes (holder_at key n)) ≡ holder_bytes (holder_at key (number_to (t_of (length key)) way n))
    unfolding step_call_holder
    step_left way =
        let there = holder_at key (number_to (t_of (length key)) way n) in
        ap (λ (x : Holder). written (holder_number x) (holder_bytes (step_holder way x)) (holder_bytes here)) (read_at n)
        ∙ ap₂ (λ (m : ℕ) (x : Holder). written m (holder_bytes x) (holder_bytes here)) (not_refused key bytes right n b) (step_call key bytes right n b way)
        ∙ left_by_lem 0 here there (stage_24 n) (stage_24 (number_to (t_of (length key)) way n)) (λ z. let e : ⊥ = omega arith in absurd e)

    -- ---- walks
    module _ (d : ℕ) where
      walk-read : walk_call_code (holder_bytes (holder_at key n)) d
          ≡ walk_code (walk_number (holder_at key n) d) (walk_steps (holder_at key n) d) (walk_way (holder_at key n) d)
      unfolding walk_call_code
      walk-read = ap (λ (x : Holder). walk_code (walk_number x d) (walk_steps x d) (walk_way x d)) (read_at n)

      walk-written : walk_call_holder (holder_bytes (holder_at key n)) d
          ≡ written (walk_number (holder_at key n) d) (holder_bytes (walk_holder (holder_at key n) d)) (holder_bytes (holder_at key n))
      unfolding walk_call_holder
      walk-written = ap (λ (x : Holder). written (walk_number x d) (holder_bytes (walk_holder x d)) (holder_bytes here)) (read_at n)

      pub walk-left : d < turn (t_of (length key))
          → (walk_call_code (holder_bytes (holder_at key n)) d ≡ way_code (way_to (t_of (length key)) n d) + ring_distance (t_of (length key)) n d)
          × (walk_call_holder (holder_bytes (holder_at key n)) d ≡ holder_bytes (holder_at key d))
      unfolding answered
      walk-left l =
          let z = walk-taken key bytes right n b d l in
          let s = walk_steps_lem key bytes right n b d l in
          let w = walk-way key bytes right n b d l in (
            walk-read ∙ (λ i. walk_code (z i) (s i) (w i)),
            walk-written ∙ ap₂ (λ (m : ℕ) (x : Holder). written m (holder_bytes x) (holder_bytes here)) z (walk_call key bytes right n b d l)
                ∙ left_by_lem 0 here (holder_at key d) (stage_24 n) (stage_24 d) (λ z. let e : ⊥ = omega arith in absurd e),
          )

      pub walk-stays : turn (t_of (length key)) ≤ d
          → (walk_call_code (holder_bytes (holder_at key n)) d ≡ 5) × (walk_call_holder (holder_bytes (holder_at key n)) d ≡ holder_bytes (holder_at key n))
      unfolding answered
      walk-stays l =
          let z = walk_refused key bytes right n b d l in (
            walk-read ∙ ap (λ (m : ℕ). walk_code m (walk_steps here d) (walk_way here d)) z,
            walk-written ∙ ap (λ (m : ℕ). written m (holder_bytes (walk_holder here d)) (holder_bytes here)) z
                ∙ sym (kept 5 (holder_bytes (walk_holder here d)) (holder_bytes here) (omega arith)),
          )

    -- ---- the subkey
    pub subkey-number : (out : List ℕ) → held_subkey_number (holder_bytes (holder_at key n)) out ≡ cond (leb 12 (length out)) 0 4
    unfolding first
    subkey-number out =
        let room = (4 unless leb 12 (length out)) ∷ [] in
        first_passes (24 unless whole (holder_of (holder_bytes (holder_at key n)))) room (ap whole (read_at n) ∙ whole-at key right n b)

    pub subkey-left : (out : List ℕ) → held_subkey_output (holder_bytes (holder_at key n)) out
        ≡ written (cond (leb 12 (length out)) 0 4) (bytes_of (subkey_of (stage (t_of (length key)) key n))) out
    unfolding held_subkey_output
    subkey-left out =
        ap₂ (λ (m : ℕ) (k : List ℕ). written m k out) (subkey-number out) (ap subkey_held (read_at n) ∙ subkey_call key bytes right n b)

    -- ---- the stage straight from the key
    pub straight-number : (out : List ℕ) → 24 ≤ length out → stage_call_number 24 key n out ≡ 0
    straight-number out l =
        first_passes _ _ right ∙ first_passes _ _ (lt-ltb n (turn (t_of (length key))) b) ∙ first_passes _ [] (le-leb 24 (length out) l) ∙ none-given [] tt

    pub straight-left : (out : List ℕ) → 24 ≤ length out → stage_call_output key n out ≡ drop 2 (holder_bytes (holder_at key n)) ++ drop 24 out
    unfolding stage_call_output holder_bytes
    straight-left out l =
        let k = padded (stage (t_of (length key)) key n) in
        sym (put (stage_call_number 24 key n out) k out (straight-number out l)) ∙ ap (λ (m : ℕ). k ++ drop m out) (stage_24 n)

  -- ---- full turns
  steps-left : (way : Way) (n : ℕ) → n < turn (t_of (length key)) → (m : ℕ) → repeated m (step_call_holder way) (holder_bytes (holder_at key n))
      ≡ holder_bytes (holder_at key (repeated m (number_to (t_of (length key)) way) n))
  steps-left way n b zero = refl
  steps-left way n b (suc m) =
      let t = t_of (length key) in
      ap (step_call_holder way) (steps-left way n b m) ∙ step_left (repeated m (number_to t way) n) (numbers_below t way m n b) way

  pub turns-home : (way : Way) (n : ℕ) → n < turn (t_of (length key)) → TurnsHome (holder_bytes (holder_at key n)) way
  turns-home way n b =
      let t = t_of (length key) in
      let lent = holder_bytes (holder_at key n) in
      record {
        taken = λ m. ap step_call_number (steps-left way n b m) ∙ step_number (repeated m (number_to t way) n) (numbers_below t way m n b);
        home = ap (λ (x : Holder). repeated (turn (t_held x)) (step_call_holder way) lent) (read_at n)
            ∙ steps-left way n b (turn t)
            ∙ ap (λ (s : ℕ). holder_bytes (holder_at key s)) (full_turn t way n b);
      }
