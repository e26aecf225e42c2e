-- Lent lists: their lengths, and the rounds one subkey after the other and layer by layer.
use mathlib.Core.Path.{◌≡◌, refl, sym, ap, ap₂, ◌∙◌}
use mathlib.Core.Bool.{Bool, true, ◌&&◌}
use mathlib.Core.List.{List, [], ◌∷◌}
use Prim.Native.Nat.{ℕ, suc, ◌+◌, ◌*◌, ◌%◌, ◌≤◌, ◌<◌}
use native.Mathlib.Omega.{arith}
use lib.Dec.{leb, eqb}
use lib.ListN.{length, get_or, drop, drop_of_length-le}
use lib.Seq.{drop-cons, drop-length}
use borrow.Author.Tests.{leb-true, le-leb, eqb-true, eq-eqb}
use Rattle.basics.proofs.Tests.{and_first, and_second}
use Rattle.layers.specs.State.{State}
use Rattle.layers.specs.Layers.{substituted, permuted, diffused, added}
use Rattle.rounds.specs.Rounds.{round, last_round, rounds, enciphered}
use Rattle.list_rounds.specs.ListRounds.{list_length}

-- ---- the test of a list's length
-- what it says where it is passed
pub record Whole (n : ℕ) : Type 0 where
  pub least : 132 ≤ n
  pub most : n ≤ 288
  pub twelves : n % 12 ≡ 0

pub whole : (n : ℕ) → list_length n ≡ true → Whole n
whole n e =
    let later = and_second (leb 132 n) (leb n 288 && eqb (n % 12) 0) e in
    record {
      least = leb-true 132 n (and_first (leb 132 n) (leb n 288 && eqb (n % 12) 0) e);
      most = leb-true n 288 (and_first (leb n 288) (eqb (n % 12) 0) later);
      twelves = eqb-true (n % 12) 0 (and_second (leb n 288) (eqb (n % 12) 0) later);
    }

-- a list that a key gives, by its rounds
pub accepted : (rounds : ℕ) → 10 ≤ rounds → rounds ≤ 23 → list_length (12 * (rounds + 1)) ≡ true
accepted rounds l h =
    ap₂ (λ (a b : Bool). a && (b && eqb (12 * (rounds + 1) % 12) 0)) (le-leb 132 (12 * (rounds + 1)) (omega arith))
    (le-leb (12 * (rounds + 1)) 288 (omega arith))
    ∙ eq-eqb (12 * (rounds + 1) % 12) 0 (omega arith)

-- ---- the rounds from subkey r on
pub rounds_done : (ks : List State) (r : ℕ) (a : State) → length ks ≤ r → rounds (drop r ks) a ≡ a
unfolding rounds
rounds_done ks r a h = ap (λ (l : List State). rounds l a) (drop_of_length-le ks {i = r} h)

module _ (ks : List State) (r : ℕ) (a : State) where
  pub round_on : suc r < length ks → rounds (drop r ks) a ≡ rounds (drop (suc r) ks) (round (get_or ks r []) a)
  unfolding rounds
  round_on h =
      ap (λ (l : List State). rounds l a) (drop-cons ks r [] (omega arith) ∙ ap {B = List State} (λ l. get_or ks r [] ∷ l) (drop-cons ks (suc r) [] h))
      ∙ sym (ap (λ (l : List State). rounds l (round (get_or ks r []) a)) (drop-cons ks (suc r) [] h))

  pub round_last : suc r ≡ length ks → rounds (drop r ks) a ≡ rounds (drop (suc r) ks) (last_round (get_or ks r []) a)
  unfolding rounds
  round_last e =
      ap (λ (l : List State). rounds l a)
      (drop-cons ks r [] (omega arith) ∙ ap {B = List State} (λ l. get_or ks r [] ∷ l) (ap (λ (m : ℕ). drop m ks) e ∙ drop-length ks))
      ∙ sym (rounds_done ks (suc r) (last_round (get_or ks r []) a) (omega arith))

pub whitened : (ks : List State) (a : State) → 0 < length ks → enciphered ks a ≡ rounds (drop 1 ks) (added (get_or ks 0 []) a)
unfolding enciphered
whitened [] a h = let z : ⊥ = omega arith in absurd z
whitened (k ∷ ks) a h = refl

-- ---- the layers one after the other are a round
module _ {s p : State} (a : State) (is-s : s ≡ substituted a) (is-p : p ≡ permuted s) where
  abbrev begun : p ≡ permuted (substituted a)
  begun = is-p ∙ ap permuted is-s

  pub round-made : {d x : State} (k : State) → d ≡ diffused p → x ≡ added k d → x ≡ round k a
  unfolding round
  round-made k is-d is_x = is_x ∙ ap (added k) (is-d ∙ ap diffused begun)

  pub last_made : {x : State} (k : State) → x ≡ added k p → x ≡ last_round k a
  unfolding last_round
  last_made k is_x = is_x ∙ ap (added k) begun
