-- Any list of calls: from place to place, each call answers what it has to and leaves the holder at the next place.
use mathlib.Core.Path.{◌≡◌, refl, sym, ap, ap₂, ◌∙◌, subst}
use mathlib.Core.Logic.{inl, inr}
use mathlib.Core.Bool.{Bool, true, cond}
use mathlib.Core.List.{List, [], ◌∷◌}
use Prim.Native.Nat.{ℕ, ◌<◌}
use native.Mathlib.Omega.{arith}
use lib.ListN.{length}
use borrow.Author.Tests.{lt-ltb, le-ltb}
use Rattle.basics.proofs.Tests.{below_or_not}
use Rattle.basics.specs.Bytes.{AreBytes}
use Rattle.sizes.specs.Sizes.{key_length, t_of, turn}
use Rattle.sizes.proofs.Keys.{a_key}
use Rattle.cycle.proofs.Numbers.{following-below, preceding-below}
use Rattle.holder.specs.declared.Holder.{Holder}
use Rattle.holder.specs.declared.Way.TheVariants.{Forward, Back}
use Rattle.holder.specs.Holder.{holder_at}
use Rattle.holder_walk.specs.Walk.{ring_distance, way_to}
use Rattle.holder_from_key.specs.FromKey.{made_holder}
use Rattle.holder_walk.proofs.Walks as walks
use Rattle.routes.specs.Routes.{Call, forward, back, subkey, walk, Answer, held, reported, given, returned, left_by, answer}
use Rattle.routes.specs.Routes.{last_holder, answers, place_after, last_place, expected_answer, expected_answers}
use Rattle.routes.specs.Claims.{ComesHome, Route}
use Rattle.routes.proofs.Ring.{number_to}
use Rattle.routes.proofs.Held.{home_at}
use Rattle.routes.proofs.At.{not_refused, step_call, subkey_call, walk-taken, walk_refused, walk_call, walk_steps_lem, walk-way}
use Rattle.routes.proofs.At.{straight-taken, straight_call, make-taken, make_call}

-- the place after a call is below the turn
pub place-below : (t : ℕ) (c : Call) (n : ℕ) → n < turn t → place_after t c n < turn t
unfolding place_after
place-below t forward n h = following-below t n h
place-below t back n h = preceding-below t n h
place-below t subkey n h = h
place-below t (walk d) n h = elim (below_or_not d (turn t)) [ inl l ↦ rw (lt-ltb d (turn t) l) l | inr l ↦ rw (le-ltb d (turn t) l) h ]

pub last_below : (t : ℕ) (cs : List Call) (n : ℕ) → n < turn t → last_place t cs n < turn t
unfolding last_place
last_below t [] n h = h
last_below t (c ∷ cs) n h = last_below t cs (place_after t c n) (place-below t c n h)

module _ (key : List ℕ) (bytes : AreBytes key) (right : key_length (length key) ≡ true) where
  -- the holder that a call returns or leaves
  pub returned-at : (c : Call) (n : ℕ) → n < turn (t_of (length key)) → returned c (holder_at key n) ≡ holder_at key (place_after (t_of (length key)) c n)
  unfolding returned left_by answer place_after number_to
  returned-at forward n h = step_call key bytes right n h Forward
  returned-at back n h = step_call key bytes right n h Back
  returned-at subkey n h = refl
  returned-at (walk d) n h = elim (below_or_not d (turn (t_of (length key)))) [
    | inl l ↦ walk_call key bytes right n h d l ∙ ap (λ (b : Bool). holder_at key (cond b d n)) (sym (lt-ltb d (turn (t_of (length key))) l))
    | inr l ↦
        sym (walks.walk_refused (holder_at key n) d 5 (omega arith) (walk_refused key bytes right n h d l)).0
        ∙ ap (λ (b : Bool). holder_at key (cond b d n)) (sym (le-ltb d (turn (t_of (length key))) l))
  ]

  -- and what it answers
  abbrev walk-expected : (d n : ℕ) → Bool → Answer
  walk-expected d n b =
      let t = t_of (length key) in
      cond b (reported 0 (holder_at key d) (ring_distance t n d) (way_to t n d)) (reported 5 (holder_at key n) 0 Forward)

  walk-answer : (d n : ℕ) → n < turn (t_of (length key)) → answer (walk d) (holder_at key n) ≡ expected_answer key (walk d) n
  unfolding answer expected_answer
  walk-answer d n h = elim (below_or_not d (turn (t_of (length key)))) [
    | inl l ↦
        let w = walk_call key bytes right n h d l in
        let s = walk_steps_lem key bytes right n h d l in
        (λ i. reported (walk-taken key bytes right n h d l i) (w i) (s i) (walk-way key bytes right n h d l i))
        ∙ ap (walk-expected d n) (sym (lt-ltb d (turn (t_of (length key))) l))
    | inr l ↦
        let e = walk_refused key bytes right n h d l in
        let w = walks.walk_refused (holder_at key n) d 5 (omega arith) e in
        (λ i. reported (e i) (sym w.0 i) (sym w.1.0 i) (sym w.1.1.0 i))
        ∙ ap (walk-expected d n) (sym (le-ltb d (turn (t_of (length key))) l))
  ]

  pub answer_at : (c : Call) (n : ℕ) → n < turn (t_of (length key)) → answer c (holder_at key n) ≡ expected_answer key c n
  unfolding answer expected_answer number_to
  answer_at forward n h = ap₂ held (not_refused key bytes right n h) (step_call key bytes right n h Forward)
  answer_at back n h = ap₂ held (not_refused key bytes right n h) (step_call key bytes right n h Back)
  answer_at subkey n h = ap₂ given (not_refused key bytes right n h) (subkey_call key bytes right n h)
  answer_at (walk d) n h = walk-answer d n h

  -- ---- whole lists, from any place
  last_at : (cs : List Call) (n : ℕ) → n < turn (t_of (length key)) → last_holder cs (holder_at key n) ≡ holder_at key (last_place (t_of (length key)) cs n)
  unfolding last_holder last_place
  last_at [] n h = refl
  last_at (c ∷ cs) n h = ap (last_holder cs) (returned-at c n h) ∙ last_at cs (place_after (t_of (length key)) c n) (place-below (t_of (length key)) c n h)

  answers_at : (cs : List Call) (n : ℕ) → n < turn (t_of (length key)) → answers cs (holder_at key n) ≡ expected_answers key cs n
  unfolding answers expected_answers
  answers_at [] n h = refl
  answers_at (c ∷ cs) n h =
      ap₂ {C = List Answer} (λ a rest. a ∷ rest) (answer_at c n h)
      (ap (answers cs) (returned-at c n h) ∙ answers_at cs (place_after (t_of (length key)) c n) (place-below (t_of (length key)) c n h))

  pub any_route_of : (cs : List Call) → Route key cs
  any_route_of cs =
      let t = t_of (length key) in
      let z : 0 < turn t = omega (arith, (a_key (length key) right).sized.least) in
      let b = last_below t cs 0 z in
      let e : last_holder cs (made_holder key) ≡ holder_at key (last_place t cs 0) = ap (last_holder cs) (make_call key bytes right) ∙ last_at cs 0 z in
      record {
        made = make-taken key bytes right;
        below = b;
        ends = e;
        answered = ap (answers cs) (make_call key bytes right) ∙ answers_at cs 0 z;
        given-straight = straight-taken key bytes right (last_place t cs 0) b;
        straight = straight_call key bytes right (last_place t cs 0) b ∙ sym e;
        turns = λ way. subst (λ (h : Holder). ComesHome h way) (sym e) (home_at key bytes right (last_place t cs 0) b way);
      }
