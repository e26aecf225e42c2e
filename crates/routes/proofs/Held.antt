-- Every whole holder is a key's at its number, so what holds at the places of a key holds of every whole holder.
use mathlib.Core.Path.{◌≡◌, refl, sym, ap, ◌∙◌, subst}
use mathlib.Core.Bool.{true}
use mathlib.Core.List.{List, [], ◌++◌}
use Prim.Native.Nat.{ℕ, zero, suc, ◌-◌, ◌*◌, ◌<◌}
use native.Mathlib.Omega.{arith}
use lib.ListN.{length, take, drop, replicate, length-drop, take-append-drop}
use lib.Seq.{length-take-le}
use Rattle.refusal.proofs.Tries.{first_passes, none-given}
use Rattle.refusal.proofs.Answers.{answer-done}
use Rattle.basics.specs.Bytes.{AreBytes}
use Rattle.basics.proofs.Bytes.{take-bytes}
use Rattle.sizes.specs.Sizes.{key_length, t_of, turn}
use Rattle.stages.specs.Columns.{IsStage, padded}
use Rattle.stages.specs.Stages.{stage}
use Rattle.stages.proofs.Columns.{as_stage, stage_byte}
use Rattle.sizes.proofs.Keys.{a_key}
use Rattle.stages.proofs.Padded.{stage-length}
use Rattle.basics.specs.Repeated.{repeated}
use Rattle.cycle.proofs.Around.{of_key}
use Rattle.holder.specs.declared.Holder.{Holder}
use Rattle.holder.specs.declared.Way.{Way}
use Rattle.holder.specs.Holder.{t_held, whole, holder_at, stepped}
use Rattle.holder_steps.specs.Steps.{holder_tries, holder_number, step_holder}
use Rattle.holder.proofs.Whole.{a_whole, size-held, turn-held, steps-whole, whole-at}
use Rattle.byte_slices.proofs.Zeros.{zeros_are}
use Rattle.routes.specs.Claims.{ComesHome}
use Rattle.routes.proofs.Ring.{full_turn}
use Rattle.routes.proofs.At.{steps-at}

-- ---- a whole holder's bytes are its stage's, and zeros
-- a key of which a holder is at its number
pub record Key (h : Holder) : Type 0 where
  pub key : List ℕ
  pub bytes : AreBytes key
  pub right : key_length (length key) ≡ true
  pub size : t_of (length key) ≡ t_held h
  pub at : h ≡ holder_at key h.number

module _ (h : Holder) (bytes : AreBytes h.bytes) (all : length h.bytes ≡ 24) (w : whole h ≡ true) where
  held : List ℕ
  held = take h.length h.bytes

  held-length : length held ≡ h.length
  unfolding held
  held-length = length-take-le h.length h.bytes (omega (arith, (a_key h.length (a_whole h w).key).most))

  padded-held : h.bytes ≡ padded held
  unfolding held padded
  padded-held =
      let n = h.length in
      let e : length (drop n h.bytes) ≡ 24 - length (take n h.bytes) = length-drop n h.bytes ∙ omega (arith, held-length) in
      sym (take-append-drop n h.bytes)
      ∙ ap (λ (x : List ℕ). take n h.bytes ++ x) (zeros_are (drop n h.bytes) (a_whole h w).zeros ∙ ap (λ (m : ℕ). replicate m 0) e)

  held_stage : IsStage (2 * t_held h) held
  unfolding held
  held_stage =
      let l : length (take h.length h.bytes) ≡ 3 * (2 * t_held h) = held-length ∙ omega (arith, turn-held h (a_whole h w)) in
      as_stage (2 * t_held h) (take h.length h.bytes) l (take-bytes h.length h.bytes bytes)

  pub key_of : Key h
  key_of =
      let o = of_key (t_held h) (size-held h (a_whole h w)) h.number (a_whole h w).below held_stage in
      let l : length o.key ≡ h.length = stage-length (2 * t_held h) o.is ∙ omega (arith, turn-held h (a_whole h w)) in
      let z : t_of (length o.key) ≡ t_held h = ap t_of l in
      record {
        key = o.key;
        bytes = stage_byte (2 * t_held h) o.is;
        right = ap key_length l ∙ (a_whole h w).key;
        size = z;
        at = λ i. record {
          length = sym l i;
          number = h.number;
          bytes = (padded-held ∙ ap padded (sym o.gives) ∙ ap (λ (t : ℕ). padded (stage t o.key h.number)) (sym z)) i;
        };
      }

-- ---- steps of the calls are steps
not_refused : (h : Holder) → whole h ≡ true → holder_number h ≡ 0
not_refused h w = first_passes _ [] w ∙ none-given [] tt

call_step : (way : Way) (h : Holder) → whole h ≡ true → step_holder way h ≡ stepped way h
unfolding step_holder
call_step way h w = sym (answer-done (holder_tries h) (stepped way h) h (not_refused h w))

call_steps : (way : Way) (m : ℕ) (h : Holder) → whole h ≡ true → repeated m (step_holder way) h ≡ repeated m (stepped way) h
call_steps way zero h w = refl
call_steps way (suc m) h w = ap (step_holder way) (call_steps way m h w) ∙ call_step way (repeated m (stepped way) h) (steps-whole way m h w)

-- ---- a full turn
module _ (key : List ℕ) (bytes : AreBytes key) (right : key_length (length key) ≡ true) (n : ℕ) (b : n < turn (t_of (length key))) (way : Way) where
  pub home_at : ComesHome (holder_at key n) way
  home_at =
      let t = t_of (length key) in
      let h = holder_at key n in
      let w = whole-at key right n b in
      record {
        taken = λ m. ap holder_number (call_steps way m h w) ∙ not_refused (repeated m (stepped way) h) (steps-whole way m h w);
        home = call_steps way (turn t) h w ∙ steps-at key bytes right way (turn t) n b ∙ ap (holder_at key) (full_turn t way n b);
      }

pub comes_home : (h : Holder) → AreBytes h.bytes → length h.bytes ≡ 24 → whole h ≡ true → (way : Way) → ComesHome h way
comes_home h bytes all w way =
    let k = key_of h bytes all w in
    let b = subst (λ (x : ℕ). h.number < turn x) (sym k.size) (a_whole h w).below in
    subst (λ (x : Holder). ComesHome x way) (sym k.at) (home_at k.key k.bytes k.right h.number b way)
