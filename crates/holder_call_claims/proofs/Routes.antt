-- Any list of C calls on a lent holder: from place to place, each call leaves what it has to.
use mathlib.Core.Path.{◌≡◌, refl, sym, ap, ap₂, ◌∙◌, subst}
use mathlib.Core.Logic.{inl, inr}
use mathlib.Core.Bool.{Bool, true, false, cond}
use mathlib.Core.List.{List, [], ◌∷◌, ◌++◌}
use Prim.Native.Nat.{ℕ, ◌+◌, ◌<◌}
use native.Mathlib.Omega.{arith}
use lib.ListN.{length, drop, length-drop}
use borrow.Author.Tests.{lt-ltb, le-ltb}
use Rattle.basics.specs.Bytes.{AreBytes}
use Rattle.basics.proofs.Bytes.{drop-bytes}
use Rattle.basics.proofs.Tests.{below_or_not}
use Rattle.refusal.specs.Tries.{written}
use Rattle.refusal.proofs.Tries.{first_holds}
use Rattle.refusal.proofs.Answers.{kept}
use Rattle.sizes.specs.Sizes.{key_length, turn}
use Rattle.sizes.proofs.Keys.{a_key}
use Rattle.cycle.proofs.Numbers.{following-below, preceding-below}
use Rattle.holder.specs.declared.Holder.{Holder}
use Rattle.holder.specs.declared.Way.{Way}
use Rattle.holder.specs.declared.Way.TheVariants.{Forward, Back}
use Rattle.holder.specs.Holder.{whole}
use Rattle.holder.proofs.Whole.{a_whole}
use Rattle.holder_from_key.specs.FromKey.{made_holder}
use Rattle.holder_walk.specs.Walk.{ring_distance, way_to}
use Rattle.routes.proofs.Ring.{number_to}
use Rattle.routes.proofs.Held.{key_of}
use Rattle.holder_bytes.specs.HolderBytes.{holder_length, holder_of, holder_bytes}
use Rattle.holder_bytes.proofs.Lent.{whole_long, read-long, written_read}
use Rattle.holder_calls.specs.HolderCalls.{make_call_number, make_call_output}
use Rattle.holder_walk_call.specs.WalkCall.{way_code}
use Rattle.holder_call_claims.specs.HolderRoutes.{HolderCall, make, forward, back, walk, subkey, Left, leaves, last_bytes, all_left}
use Rattle.holder_call_claims.specs.HolderRoutes.{Place, t_at, bytes_at, start_of, moved, place_after, last_place}
use Rattle.holder_call_claims.specs.HolderRoutes.{expected_number, expected_output, expected_left, all_expected}
use Rattle.holder_call_claims.specs.Claims.{TurnsHome, HolderRoute, KeyIsBytes, KeysAreBytes}
use Rattle.holder_call_claims.proofs.Places.{make-at, step_number, step_left, walk-left, walk-stays, subkey-number, subkey-left}
use Rattle.holder_call_claims.proofs.Places.{length_at, straight-number, straight-left, turns-home}

-- a stage of a key as a host has it
pub record Good (p : Place) : Type 0 where
  pub bytes : AreBytes p.key
  pub right : key_length (length p.key) ≡ true
  pub below : p.number < turn (t_at p)

started : (key : List ℕ) → AreBytes key → key_length (length key) ≡ true → Good (start_of key)
started key b e = record { bytes = b; right = e; below = omega (arith, (a_key (length key) e).sized.least) }

good_after : (c : HolderCall) → KeyIsBytes c → (p : Place) → Good p → Good (place_after c p)
unfolding place_after
good_after (make key) k p g = by (key_length (length key)) refl
  where
    by : (b : Bool) → key_length (length key) ≡ b → Good (cond b (start_of key) p)
    by true e = started key k e
    by false e = g
good_after forward k p g = record { bytes = g.bytes; right = g.right; below = following-below (t_at p) p.number g.below }
good_after back k p g = record { bytes = g.bytes; right = g.right; below = preceding-below (t_at p) p.number g.below }
good_after (walk d) k p g = elim (below_or_not d (turn (t_at p))) [
  | inl l ↦ rw (lt-ltb d (turn (t_at p)) l) record { bytes = g.bytes; right = g.right; below = l }
  | inr l ↦ rw (le-ltb d (turn (t_at p)) l) g
]
good_after (subkey out) k p g = g

-- ---- one call
abbrev plain : ℕ → List ℕ → Left
plain n h = record { number = n; holder = h; output = [] }

make-left : (key : List ℕ) → AreBytes key → (p : Place) → length (bytes_at p) ≡ holder_length → leaves (make key) (bytes_at p) ≡ expected_left (make key) p
unfolding leaves make_call_output expected_left expected_number expected_output place_after
make-left key k p l = by (key_length (length key)) refl
  where
    by : (b : Bool) → key_length (length key) ≡ b
        → plain (make_call_number key (bytes_at p)) (written (make_call_number key (bytes_at p)) (holder_bytes (made_holder key)) (bytes_at p))
        ≡ plain (cond (key_length (length key)) 0 1) (bytes_at (cond (key_length (length key)) (start_of key) p))
    by true e =
        let m = make-at key k e (bytes_at p) l in
        (λ i. plain (m.0 i) (m.1 i)) ∙ ap (λ (b : Bool). plain (cond b 0 1) (bytes_at (cond b (start_of key) p))) (sym e)
    by false e =
        let z : make_call_number key (bytes_at p) ≡ 1 = first_holds _ _ e in
        let h = holder_bytes (made_holder key) in
        ap (λ (n : ℕ). plain n (written n h (bytes_at p))) z ∙ ap (plain 1) (sym (kept 1 h (bytes_at p) (omega arith)))
        ∙ ap (λ (b : Bool). plain (cond b 0 1) (bytes_at (cond b (start_of key) p))) (sym e)

module _ (p : Place) (g : Good p) where
  pub long-at : length (bytes_at p) ≡ holder_length
  long-at = length_at p.key g.bytes g.right p.number

  left_at : (c : HolderCall) → KeyIsBytes c → leaves c (bytes_at p) ≡ expected_left c p
  unfolding leaves expected_left expected_number expected_output place_after number_to
  left_at (make key) k = make-left key k p long-at
  left_at forward k = λ i. plain (step_number p.key g.bytes g.right p.number g.below i)
      (step_left p.key g.bytes g.right p.number g.below Forward i)
  left_at back k = λ i. plain (step_number p.key g.bytes g.right p.number g.below i)
      (step_left p.key g.bytes g.right p.number g.below Back i)
  left_at (walk d) k =
      let t = t_at p in
      let said : Bool → Left = λ b. plain (cond b (way_code (way_to t p.number d) + ring_distance t p.number d) 5) (bytes_at (cond b (moved p d) p)) in
      elim (below_or_not d (turn t)) [
        | inl l ↦
            let w = walk-left p.key g.bytes g.right p.number g.below d l in
            (λ i. plain (w.0 i) (w.1 i)) ∙ ap said (sym (lt-ltb d (turn t) l))
        | inr l ↦
            let w = walk-stays p.key g.bytes g.right p.number g.below d l in
            (λ i. plain (w.0 i) (w.1 i)) ∙ ap said (sym (le-ltb d (turn t) l))
      ]
  left_at (subkey out) k = λ i. record {
    number = subkey-number p.key g.bytes g.right p.number g.below out i;
    holder = bytes_at p;
    output = subkey-left p.key g.bytes g.right p.number g.below out i;
  }

-- ---- whole lists
last_good : (cs : List HolderCall) → KeysAreBytes cs → (p : Place) → Good p → Good (last_place cs p)
unfolding last_place
last_good [] k p g = g
last_good (c ∷ cs) k p g = last_good cs k.1 (place_after c p) (good_after c k.0 p g)

holder-left : (c : HolderCall) → KeyIsBytes c → (p : Place) → Good p → (leaves c (bytes_at p)).holder ≡ bytes_at (place_after c p)
unfolding expected_left
holder-left c k p g = ap (λ (x : Left). x.holder) (left_at p g c k)

last_at : (cs : List HolderCall) → KeysAreBytes cs → (p : Place) → Good p → last_bytes cs (bytes_at p) ≡ bytes_at (last_place cs p)
unfolding last_bytes last_place
last_at [] k p g = refl
last_at (c ∷ cs) k p g = ap (last_bytes cs) (holder-left c k.0 p g) ∙ last_at cs k.1 (place_after c p) (good_after c k.0 p g)

all_left_lem : (cs : List HolderCall) → KeysAreBytes cs → (p : Place) → Good p → all_left cs (bytes_at p) ≡ all_expected cs p
unfolding all_left all_expected
all_left_lem [] k p g = refl
all_left_lem (c ∷ cs) k p g =
    ap₂ {C = List Left} (λ x rest. x ∷ rest) (left_at p g c k.0)
    (ap (all_left cs) (holder-left c k.0 p g) ∙ all_left_lem cs k.1 (place_after c p) (good_after c k.0 p g))

pub any_route_of : (key : List ℕ) → AreBytes key → key_length (length key) ≡ true → (lent : List ℕ) → length lent ≡ holder_length
    → (cs : List HolderCall) → KeysAreBytes cs → HolderRoute key lent cs
any_route_of key b e lent l cs k =
    let m = make-at key b e lent l in
    let s = started key b e in
    let p = last_place cs (start_of key) in
    let g = last_good cs k (start_of key) s in
    let ends = ap (last_bytes cs) m.1 ∙ last_at cs k (start_of key) s in
    record {
      made = m.0;
      below = g.below;
      ends = ends;
      left = ap (all_left cs) m.1 ∙ all_left_lem cs k (start_of key) s;
      given-straight = straight-number p.key g.bytes g.right p.number g.below;
      straight = λ out o. straight-left p.key g.bytes g.right p.number g.below out o
          ∙ ap (λ (l : List ℕ). drop 2 l ++ drop 24 out) (sym ends);
      turns = λ way. subst (λ (x : List ℕ). TurnsHome x way) (sym ends) (turns-home p.key g.bytes g.right way p.number g.below);
    }

-- ---- bytes that hold a whole holder
pub turn-home : (lent : List ℕ) → AreBytes lent → whole (holder_of lent) ≡ true → (way : Way) → TurnsHome lent way
turn-home lent b w way =
    let l = whole_long lent w in
    let h = holder_of lent in
    let e = ap (λ (x : Holder). x.bytes) (read-long lent l) in
    let k = key_of h (subst AreBytes (sym e) (drop-bytes 2 lent b)) (ap length e ∙ length-drop 2 lent ∙ omega (arith, l)) w in
    let n = subst (λ (x : ℕ). h.number < turn x) (sym k.size) (a_whole h w).below in
    let z = ap holder_bytes (sym k.at) ∙ written_read lent l in
    subst (λ (x : List ℕ). TurnsHome x way) z (turns-home k.key k.bytes k.right way h.number n)
