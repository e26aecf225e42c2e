-- One block of a chaining undone: the list of what is left to undo gets one block shorter. And the test of what is undone, from a place on.
use mathlib.Core.Path.{◌≡◌, refl, sym, ap, ap₂, ◌∙◌}
use mathlib.Core.Bool.{Bool, ◌&&◌}
use mathlib.Core.List.{List, [], ◌∷◌, ◌++◌}
use Prim.Native.Nat.{ℕ, zero, suc, ◌+◌, ◌-◌, ◌*◌, ◌/◌, ◌%◌, ◌≤◌, ◌<◌}
use native.Mathlib.Nat.{le_of_suc-le-suc, not-suc-le-zero}
use native.Mathlib.Omega.{arith}
use native.Mathlib.Numerals.{add-one}
use lib.ListN.{length, get_or, take, drop, drop_of_length-le}
use lib.Seq.{drop-cons, drop-drop, drop-append-le}
use Rattle.std.proofs.Math.Bool.{and_assoc}
use Rattle.layers.specs.State.{State}
use Rattle.layers.specs.Layers.{added}
use Rattle.block_bytes.specs.Blocks.{state_of, bytes_of, list_states, list_bytes}
use Rattle.block_bytes.proofs.Lists.{length_states, block_read}
use Rattle.block_bytes.proofs.RoundTrip.{bytes_drop}
use Rattle.byte_slices.specs.Slices.{all_zero}
use Rattle.byte_slices.proofs.Zeros.{zeros_both}
use Rattle.chaining.specs.Chaining.{unchained, unchained_bytes}
use Rattle.unchain.specs.ForProver.{block_before}

module _ (g : State → State) (bytes : List ℕ) (i : ℕ) (previous : State) where
  -- what is left to undo
  abbrev pub left : List State
  left = unchained g previous (drop i (list_states bytes))

  pub undone_next : (block plain : State) → i < length bytes / 12 → block ≡ get_or (list_states bytes) i [] → plain ≡ added previous (g block)
      → list_bytes left ≡ bytes_of plain ++ list_bytes (unchained g block (drop (i + 1) (list_states bytes)))
  unfolding unchained list_bytes
  undone_next block plain h eb ep =
      let bs = list_states bytes in
      let c = ap (unchained g previous) (drop-cons bs i [] (omega (arith, length_states bytes))) in
      ap list_bytes c
      ∙ ap₂ (λ (x : State) (m : ℕ). bytes_of (added previous (g x)) ++ list_bytes (unchained g x (drop m bs))) (sym eb) (sym (add-one i))
      ∙ ap (λ (p : State). bytes_of p ++ list_bytes (unchained g block (drop (i + 1) bs))) (sym ep)

  pub undone_end : length bytes / 12 ≤ i → left ≡ []
  unfolding unchained
  undone_end h = ap (unchained g previous) (drop_of_length-le (list_states bytes) {i = i} (omega (arith, length_states bytes)))

  -- the test of one more block: what was tested so far, and the rest
  pub zero_on : (skip : ℕ) (so_far : Bool) (block : State) (rest : List ℕ) (test : Bool) → skip ≤ 12 → list_bytes left ≡ bytes_of block ++ rest
      → test ≡ all_zero (drop skip (bytes_of block))
      → (so_far && all_zero (drop skip (list_bytes left))) ≡ ((so_far && test) && all_zero rest)
  zero_on skip so_far block rest test h e et =
      let b = bytes_of block in
      ap (λ (l : List ℕ). so_far && all_zero (drop skip l)) e
      ∙ ap (λ (l : List ℕ). so_far && all_zero l) (drop-append-le skip b rest h)
      ∙ ap (λ (z : Bool). so_far && z) (zeros_both (drop skip b) rest)
      ∙ sym (and_assoc so_far (all_zero (drop skip b)) (all_zero rest))
      ∙ ap (λ (z : Bool). (so_far && z) && all_zero rest) (sym et)

-- ---- the blocks before a place left out
pub before_read : (start : State) (bytes : List ℕ) (i : ℕ) → (i ≡ 0 → ⊥) → 12 * i ≤ length bytes
    → state_of (take (12 * (i - 1) + 12 - 12 * (i - 1)) (drop (12 * (i - 1)) bytes)) ≡ block_before start (list_states bytes) i
unfolding block_before
before_read start bytes zero h l = absurd (h refl)
before_read start bytes (suc m) h l =
    let e : suc m - 1 ≡ m = omega arith in
    ap (λ (k : ℕ). state_of (take (12 * k + 12 - 12 * k) (drop (12 * k) bytes))) e ∙ block_read bytes (drop (12 * m) bytes) m (omega arith) refl

skips : (g : State → State) (start : State) (cs : List State) (k : ℕ) → k ≤ length cs
    → drop k (unchained g start cs) ≡ unchained g (block_before start cs k) (drop k cs)
unfolding unchained block_before
skips g start cs zero h = refl
skips g start [] (suc k) h = absurd (not-suc-le-zero h)
skips g start (c ∷ cs) (suc zero) h = refl
skips g start (c ∷ cs) (suc (suc k)) h = skips g c cs (suc k) (le_of_suc-le-suc h)

pub from_place : (g : State → State) (start : State) (bytes : List ℕ) (n : ℕ) → n ≤ length bytes
    → drop n (unchained_bytes g start bytes)
    ≡ drop (n % 12) (list_bytes (unchained g (block_before start (list_states bytes) (n / 12)) (drop (n / 12) (list_states bytes))))
unfolding unchained_bytes
from_place g start bytes n h =
    let cs = list_states bytes in
    let us = unchained g start cs in
    let e : n ≡ 12 * (n / 12) + n % 12 = omega arith in
    ap (λ (m : ℕ). drop m (list_bytes us)) e ∙ sym (drop-drop (n % 12) (12 * (n / 12)) (list_bytes us))
    ∙ ap (drop (n % 12)) (bytes_drop us (n / 12) ∙ ap list_bytes (skips g start cs (n / 12) (omega (arith, length_states bytes))))
