-- The turned list, place by place and by its ends.
use mathlib.Core.Path.{◌≡◌, refl, sym, ap, ap₂, ◌∙◌, subst}
use mathlib.Core.Logic.{inl, inr}
use mathlib.Core.Bool.{Bool, true, false, cond, ◌||◌, or-true}
use mathlib.Core.List.{List, [], ◌∷◌, ◌++◌, map, reverse, reverse-cons}
use Prim.Native.Nat.{ℕ, zero, suc, ◌+◌, ◌-◌, ◌≤◌, ◌<◌}
use native.Mathlib.Nat.{not-suc-le-zero, le_of_suc-le-suc, eq-or-lt_of_le, zero-add}
use native.Mathlib.Omega.{arith}
use lib.Dec.{eqb}
use lib.ListN.{length, get_or, length-reverse, length-append, length-map, get_or-append}
use lib.Seq.{ext_get_or, get_or_at}
use borrow.Author.Tests.{eq-eqb, ne_eqb}
use Rattle.layers.specs.State.{State, IsState}
use Rattle.layers.specs.Layers.{diffused}
use Rattle.layers.proofs.Layers.{diffused-diffused, diffused_state}
use Rattle.rounds.specs.Rounds.{listed_from, turned_at, turned, AllStates}

-- ---- lists by their elements
module _ {A : Type 0} where
  length-listed_from : (r n : ℕ) (f : ℕ → A) → length (listed_from r n f) ≡ n
  unfolding listed_from
  length-listed_from r zero f = refl
  length-listed_from r (suc n) f = ap suc (length-listed_from (suc r) n f)

  get_or-listed_from : (d : A) (r n : ℕ) (f : ℕ → A) (i : ℕ) → i < n → get_or (listed_from r n f) i d ≡ f (r + i)
  unfolding listed_from
  get_or-listed_from d r zero f i h = absurd (not-suc-le-zero h)
  get_or-listed_from d r (suc n) f zero h = ap f (omega arith)
  get_or-listed_from d r (suc n) f (suc i) h = get_or-listed_from d (suc r) n f i (le_of_suc-le-suc h) ∙ ap f (omega arith)

pub length-listed : {A : Type 0} (n : ℕ) (f : ℕ → A) → length (listed_from 0 n f) ≡ n
length-listed n f = length-listed_from 0 n f

pub get_or-listed : {A : Type 0} (d : A) (n : ℕ) (f : ℕ → A) (i : ℕ) → i < n → get_or (listed_from 0 n f) i d ≡ f i
get_or-listed d n f i h = get_or-listed_from d 0 n f i h ∙ ap f (zero-add i)

get_d_map : {A B : Type 0} (g : A → B) (d : A) (e : B) (l : List A) (i : ℕ) → i < length l → get_or (map g l) i e ≡ g (get_or l i d)
get_d_map g d e [] i h = absurd (not-suc-le-zero h)
get_d_map g d e (x ∷ l) zero h = refl
get_d_map g d e (x ∷ l) (suc i) h = get_d_map g d e l i (le_of_suc-le-suc h)

get_d_reverse : {A : Type 0} (d : A) (l : List A) (i : ℕ) → i < length l → get_or (reverse l) i d ≡ get_or l (length l - suc i) d
get_d_reverse d [] i h = absurd (not-suc-le-zero h)
get_d_reverse {A} d (x ∷ l) i h =
    ap (λ (m : List A). get_or m i d) (reverse-cons x l)
    ∙ elim (eq-or-lt_of_le (le_of_suc-le-suc h)) [
      | inl e ↦
          let z : suc (length l) - suc i ≡ 0 = omega arith in
          get_or_at (reverse l) x [] d i (length-reverse l ∙ sym e) ∙ ap (λ (m : ℕ). get_or (x ∷ l) m d) (sym z)
      | inr u ↦
          let z : suc (length l) - suc i ≡ suc (length l - suc i) = omega arith in
          get_or-append (reverse l) (x ∷ []) d i (omega (arith, length-reverse l))
          ∙ get_d_reverse d l i u ∙ ap (λ (m : ℕ). get_or (x ∷ l) m d) (sym z)
    ]

-- ---- the test for the ends
at_last : (R : ℕ) → (eqb R 0 || eqb R R) ≡ true
at_last R = ap (λ (b : Bool). eqb R 0 || b) (eq-eqb R R refl) ∙ or-true (eqb R 0)

between : (r R : ℕ) → 0 < r → r < R → (eqb r 0 || eqb r R) ≡ false
between r R p h = ap₂ ◌||◌ (ne_eqb r 0 (λ e. omega arith)) (ne_eqb r R (λ e. omega arith))

-- ---- what document 01 says of the turned list
module _ (ks : List State) (R : ℕ) (e : length ks ≡ suc R) where
  pub turned-length : length (turned ks) ≡ suc R
  unfolding turned
  turned-length = length-listed (length ks) (turned_at ks (length ks - 1)) ∙ e

  turned-at : (r : ℕ) → r ≤ R → get_or (turned ks) r [] ≡ turned_at ks R r
  unfolding turned
  turned-at r h =
      let z : length ks - 1 ≡ R = omega arith in
      get_or-listed [] (length ks) (turned_at ks (length ks - 1)) r (omega arith) ∙ ap (λ (m : ℕ). turned_at ks m r) z

  pub turned-first : get_or (turned ks) 0 [] ≡ get_or ks R []
  turned-first = turned-at 0 (omega arith) ∙ ap (λ (m : ℕ). get_or ks m []) (omega arith)

  pub turned_last : get_or (turned ks) R [] ≡ get_or ks 0 []
  turned_last =
      turned-at R (omega arith) ∙ ap (λ (b : Bool). cond b (get_or ks (R - R) []) (diffused (get_or ks (R - R) []))) (at_last R)
      ∙ ap (λ (m : ℕ). get_or ks m []) (omega arith)

  pub turned_inner : (r : ℕ) → 0 < r → r < R → get_or (turned ks) r [] ≡ diffused (get_or ks (R - r) [])
  turned_inner r p h =
      turned-at r (omega arith) ∙ ap (λ (b : Bool). cond b (get_or ks (R - r) []) (diffused (get_or ks (R - r) []))) (between r R p h)

-- ---- the turned list by its ends
module _ (k : State) (ks : List State) (l : State) where
  whole : List State
  whole = k ∷ (ks ++ (l ∷ []))

  ends : List State
  ends = l ∷ (map diffused (reverse ks) ++ (k ∷ []))

  middle : length (map diffused (reverse ks)) ≡ length ks
  middle = length-map (reverse ks) diffused ∙ length-reverse ks

  whole_length : length whole ≡ suc (suc (length ks))
  unfolding whole
  whole_length = omega (arith, length-append ks (l ∷ []))

  ends-length : length ends ≡ suc (suc (length ks))
  unfolding ends
  ends-length = omega (arith, length-append (map diffused (reverse ks)) (k ∷ []), middle)

  ends_inner : (m : ℕ) → m < length ks → get_or (turned whole) (suc m) [] ≡ get_or ends (suc m) []
  unfolding whole ends
  ends_inner m h =
      let z : suc (length ks) - suc m ≡ suc (length ks - suc m) = omega arith in
      turned_inner whole (suc (length ks)) whole_length (suc m) (omega arith) (omega arith)
      ∙ ap diffused (ap (λ (n : ℕ). get_or whole n []) z
      ∙ get_or-append ks (l ∷ []) [] (length ks - suc m) (omega arith) ∙ sym (get_d_reverse [] ks m h))
      ∙ sym (get_or-append (map diffused (reverse ks)) (k ∷ []) [] m (omega (arith, middle))
      ∙ get_d_map diffused [] [] (reverse ks) m (omega (arith, length-reverse ks)))

  ends_at : (i : ℕ) → i < suc (suc (length ks)) → get_or (turned whole) i [] ≡ get_or ends i []
  unfolding whole ends
  ends_at zero h = turned-first whole (suc (length ks)) whole_length ∙ get_or_at ks l [] [] (length ks) refl
  ends_at (suc m) h = elim (eq-or-lt_of_le (le_of_suc-le-suc (le_of_suc-le-suc h))) [
    | inl e ↦
        ap (λ (n : ℕ). get_or (turned whole) (suc n) []) e ∙ turned_last whole (suc (length ks)) whole_length
        ∙ sym (get_or_at (map diffused (reverse ks)) k [] [] m (middle ∙ sym e))
    | inr u ↦ ends_inner m u
  ]

  pub turned-ends : turned (k ∷ (ks ++ (l ∷ []))) ≡ l ∷ (map diffused (reverse ks) ++ (k ∷ []))
  unfolding whole ends
  turned-ends =
      let e : length (turned whole) ≡ suc (suc (length ks)) = turned-length whole (suc (length ks)) whole_length in
      ext_get_or [] (turned whole) ends (e ∙ sym ends-length) (λ i h. ends_at i (omega arith))

-- ---- a list turned twice
state_at : (ks : List State) (r : ℕ) → AllStates ks → r < length ks → IsState (get_or ks r [])
state_at [] r a h = absurd (not-suc-le-zero h)
state_at (k ∷ ks) zero a h = a.0
state_at (k ∷ ks) (suc r) a h = state_at ks r a.1 (le_of_suc-le-suc h)

module _ (ks : List State) (R : ℕ) (e : length ks ≡ suc R) (a : AllStates ks) where
  twice_at : (r : ℕ) → r ≤ R → get_or (turned (turned ks)) r [] ≡ get_or ks r []
  twice_at zero h = turned-first (turned ks) R (turned-length ks R e) ∙ turned_last ks R e
  twice_at (suc m) h = elim (eq-or-lt_of_le h) [
    | inl l ↦
        ap (λ (n : ℕ). get_or (turned (turned ks)) n []) l ∙ turned_last (turned ks) R (turned-length ks R e) ∙ turned-first ks R e
        ∙ ap (λ (n : ℕ). get_or ks n []) (sym l)
    | inr u ↦
        let z : R - (R - suc m) ≡ suc m = omega arith in
        turned_inner (turned ks) R (turned-length ks R e) (suc m) (omega arith) u
        ∙ ap diffused (turned_inner ks R e (R - suc m) (omega arith) (omega arith) ∙ ap (λ (n : ℕ). diffused (get_or ks n [])) z)
        ∙ diffused-diffused (state_at ks (suc m) a (omega arith))
  ]

  turned_twice_some : turned (turned ks) ≡ ks
  turned_twice_some =
      let l : length (turned (turned ks)) ≡ suc R = turned-length (turned ks) R (turned-length ks R e) in
      ext_get_or [] (turned (turned ks)) ks (l ∙ sym e) (λ r h. twice_at r (omega arith))

pub turned-turned : (ks : List State) → AllStates ks → turned (turned ks) ≡ ks
unfolding turned listed_from
turned-turned [] a = refl
turned-turned (k ∷ ks) a = turned_twice_some (k ∷ ks) (length ks) refl a

-- ---- the turned list has states for states
states_from : (ks : List State) → ((r : ℕ) → r < length ks → IsState (get_or ks r [])) → AllStates ks
states_from [] h = tt
states_from (k ∷ ks) h = (h 0 (omega arith), states_from ks (λ r l. h (suc r) (omega arith)))

module _ (ks : List State) (R : ℕ) (e : length ks ≡ suc R) (a : AllStates ks) where
  state_turned : (r : ℕ) → r ≤ R → IsState (get_or (turned ks) r [])
  state_turned zero h = subst IsState (sym (turned-first ks R e)) (state_at ks R a (omega arith))
  state_turned (suc m) h = elim (eq-or-lt_of_le h) [
    | inl l ↦
        subst IsState (sym (ap (λ (n : ℕ). get_or (turned ks) n []) l ∙ turned_last ks R e)) (state_at ks 0 a (omega arith))
    | inr u ↦
        subst IsState (sym (turned_inner ks R e (suc m) (omega arith) u)) (diffused_state (state_at ks (R - suc m) a (omega arith)))
  ]

  states_turned : AllStates (turned ks)
  states_turned = let l = turned-length ks R e in states_from (turned ks) (λ r h. state_turned r (omega arith))

pub turned_states : (ks : List State) → AllStates ks → (length (turned ks) ≡ length ks) × AllStates (turned ks)
unfolding turned listed_from
turned_states [] a = (refl, tt)
turned_states (k ∷ ks) a = (turned-length (k ∷ ks) (length ks) refl, states_turned (k ∷ ks) (length ks) refl a)
