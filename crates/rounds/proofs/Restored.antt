-- The rounds under the turned list take the rounds back: induction over the list of subkeys.
use mathlib.Core.Path.{◌≡◌, refl, sym, ap, ap₂, ◌∙◌, subst}
use mathlib.Core.List.{List, [], ◌∷◌, ◌++◌, map, reverse, reverse-cons}
use Prim.Native.Nat.{◌≤◌}
use native.Mathlib.Nat.{not-suc-le-zero, le_of_suc-le-suc}
use lib.ListN.{length}
use Rattle.layers.specs.State.{State, IsState}
use Rattle.layers.specs.Layers.{substituted, permuted, diffused, added}
use Rattle.layers.proofs.Layers.{permuted-permuted, substituted-substituted, substituted-permuted, added-added, diffused-diffused}
use Rattle.layers.proofs.Layers.{diffused-added, substituted_state, permuted_state, added_state, diffused_state}
use Rattle.rounds.specs.Rounds.{round, last_round, rounds, enciphered, turned, AllStates}
use Rattle.rounds.proofs.Turned.{turned-ends}

-- ---- what a round does before its diffusion undoes itself
mixed : State → State
mixed a = permuted (substituted a)

mixed_state : {a : State} → IsState a → IsState (mixed a)
unfolding mixed
mixed_state b = permuted_state (substituted_state b)

mixed-mixed : {a : State} → IsState a → mixed (mixed a) ≡ a
unfolding mixed
mixed-mixed {a} b =
    ap permuted (substituted-permuted (substituted a)) ∙ permuted-permuted (substituted_state (substituted_state b)) ∙ substituted-substituted b

round-mixed : (k a : State) → round k a ≡ added k (diffused (mixed a))
unfolding round mixed
round-mixed k a = refl

last_mixed : (k a : State) → last_round k a ≡ added k (mixed a)
unfolding last_round mixed
last_mixed k a = refl

round_state : {k a : State} → IsState k → IsState a → IsState (round k a)
unfolding round
round_state hk ha = added_state (diffused_state (permuted_state (substituted_state ha))) hk

last_state : {k a : State} → IsState k → IsState a → IsState (last_round k a)
unfolding last_round
last_state hk ha = added_state (permuted_state (substituted_state ha)) hk

-- ---- the rounds between the first subkey and the last round
middle : List State → State → State
middle [] a = a
middle (k ∷ ks) a = middle ks (round k a)

middle_state : (ks : List State) {a : State} → AllStates ks → IsState a → IsState (middle ks a)
unfolding middle
middle_state [] h b = b
middle_state (k ∷ ks) h b = middle_state ks h.1 (round_state h.0 b)

middle_snoc : (ks : List State) (k a : State) → middle (ks ++ (k ∷ [])) a ≡ round k (middle ks a)
unfolding middle
middle_snoc [] k a = refl
middle_snoc (x ∷ ks) k a = middle_snoc ks k (round x a)

rounds_snoc : (ks : List State) (k a : State) → rounds (ks ++ (k ∷ [])) a ≡ last_round k (middle ks a)
unfolding rounds middle
rounds_snoc [] k a = refl
rounds_snoc (x ∷ []) k a = refl
rounds_snoc (x ∷ y ∷ ks) k a = rounds_snoc (y ∷ ks) k (round x a)

map_snoc : (ks : List State) (k : State) → map diffused (ks ++ (k ∷ [])) ≡ map diffused ks ++ (diffused k ∷ [])
map_snoc [] k = refl
map_snoc (x ∷ ks) k = ap {B = List State} (λ l. diffused x ∷ l) (map_snoc ks k)

-- a round under a diffused subkey takes a round under the subkey back
round-back : (k a : State) → IsState k → IsState a → round (diffused k) (mixed (round k a)) ≡ mixed a
round-back k a hk ha =
    round-mixed (diffused k) (mixed (round k a))
    ∙ ap (λ (x : State). added (diffused k) (diffused x)) (mixed-mixed (round_state hk ha) ∙ round-mixed k a)
    ∙ ap (added (diffused k)) (diffused-added k (diffused (mixed a)) ∙ ap (added (diffused k)) (diffused-diffused (mixed_state ha)))
    ∙ added-added (mixed_state ha) (diffused_state hk)

-- the turned subkeys take the middle rounds back
middle_back : (ks : List State) (a : State) → AllStates ks → IsState a → middle (map diffused (reverse ks)) (mixed (middle ks a)) ≡ mixed a
unfolding middle
middle_back [] a h b = refl
middle_back (k ∷ ks) a h b =
    ap (λ (l : List State). middle l (mixed (middle ks (round k a)))) (ap (map diffused) (reverse-cons k ks) ∙ map_snoc (reverse ks) k)
    ∙ middle_snoc (map diffused (reverse ks)) (diffused k) (mixed (middle ks (round k a)))
    ∙ ap (round (diffused k)) (middle_back ks (round k a) h.1 (round_state h.0 b))
    ∙ round-back k a h.0 b

-- ---- a list that is not empty has a last element
last : (k : State) (ks : List State) → (front : List State) × (end : State) × (k ∷ ks ≡ front ++ (end ∷ []))
last k [] = ([], k, refl)
last k (x ∷ ks) = let r = last x ks in (k ∷ r.0, r.1, ap {B = List State} (λ l. k ∷ l) r.2)

states_front : (ks : List State) (k : State) → AllStates (ks ++ (k ∷ [])) → AllStates ks × IsState k
states_front [] k h = (tt, h.0)
states_front (x ∷ ks) k h = let r = states_front ks k h.1 in ((h.0, r.0), r.1)

restored_ends : (k : State) (ks : List State) (l a : State) → IsState k → AllStates ks → IsState l → IsState a
    → enciphered (turned (k ∷ (ks ++ (l ∷ [])))) (enciphered (k ∷ (ks ++ (l ∷ []))) a) ≡ a
unfolding enciphered
restored_ends k ks l a hk hs hl ha =
    ap₂ enciphered (turned-ends k ks l) (rounds_snoc ks l (added k a) ∙ last_mixed l (middle ks (added k a)))
    ∙ rounds_snoc (map diffused (reverse ks)) k (added l (added l (mixed (middle ks (added k a)))))
    ∙ last_mixed k (middle (map diffused (reverse ks)) (added l (added l (mixed (middle ks (added k a))))))
    ∙ ap (λ (x : State). added k (mixed (middle (map diffused (reverse ks)) x))) (added-added (mixed_state (middle_state ks hs hb)) hl)
    ∙ ap (λ (x : State). added k (mixed x)) (middle_back ks (added k a) hs hb)
    ∙ ap (added k) (mixed-mixed hb)
    ∙ added-added ha hk
  where
    hb : IsState (added k a)
    hb = added_state ha hk

-- the turned list gives the block back
pub restored : (ks : List State) (a : State) → 2 ≤ length ks → AllStates ks → IsState a → enciphered (turned ks) (enciphered ks a) ≡ a
restored [] a n h b = absurd (not-suc-le-zero n)
restored (k ∷ []) a n h b = absurd (not-suc-le-zero (le_of_suc-le-suc n))
restored (k ∷ x ∷ ks) a n h b =
    let r = last x ks in
    let parts = states_front r.0 r.1 (subst AllStates r.2 h.1) in
    subst (λ (l : List State). enciphered (turned (k ∷ l)) (enciphered (k ∷ l) a) ≡ a) (sym r.2)
    (restored_ends k r.0 r.1 a h.0 parts.0 parts.1 b)

-- ---- the rounds make a state of a state
rounds_state : (ks : List State) (a : State) → AllStates ks → IsState a → IsState (rounds ks a)
unfolding rounds
rounds_state [] a h b = b
rounds_state (k ∷ []) a h b = last_state h.0 b
rounds_state (k ∷ x ∷ ks) a h b = rounds_state (x ∷ ks) (round k a) h.1 (round_state h.0 b)

pub enciphered_state : (ks : List State) (a : State) → AllStates ks → IsState a → IsState (enciphered ks a)
unfolding enciphered
enciphered_state [] a h b = b
enciphered_state (k ∷ ks) a h b = rounds_state ks (added k a) h.1 (added_state b h.0)
