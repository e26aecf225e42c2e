-- The layers' laws on states.
use mathlib.Core.Path.{◌≡◌, refl, sym, ap, ◌∙◌, subst}
use mathlib.Core.List.{List, [], ◌∷◌}
use Prim.Native.Nat.{ℕ, zero, suc, ◌<◌}
use native.Mathlib.Omega.{arith}
use lib.ListN.{get_or, length}
use lib.Seq.{ext_get_or}
use lib.Dec.{lit<}
use lib.Bits.{bit_xor}
use Rattle.field.specs.Field.{◌⊕◌}
use Rattle.field.proofs.Addition.{assoc, zero_right, self, byte}
use Rattle.sbox.specs.Sbox.{sbox}
use Rattle.layers.specs.State.{State, at, build, IsState, built}
use Rattle.layers.specs.Layers.{substituted, permuted, row_times, diffused, added}
use Rattle.sbox.proofs.Laws.{sbox-sbox, sbox_byte}
use Rattle.layers.proofs.Columns.{row_times_linear, row_times_byte, row, twice, twice_is}

build_path : {f g : ℕ → ℕ → ℕ} → ((i j : ℕ) → f i j ≡ g i j) → build f ≡ build g
build_path h k = build (λ i j. h i j k)

rows_path : (f g : ℕ → ℕ → ℕ) → ((i j : ℕ) → i < 3 → f i j ≡ g i j) → build f ≡ build g
rows_path f g h k = one 0 ∷ one 1 ∷ one 2 ∷ one 3 ∷ []
  where
    one : ℕ → List ℕ
    one j = h 0 j (lit< tt) k ∷ h 1 j (lit< tt) k ∷ h 2 j (lit< tt) k ∷ []

pub permuted-permuted : {a : State} → IsState a → permuted (permuted a) ≡ a
permuted-permuted (built f h) = refl

pub substituted-substituted : {a : State} → IsState a → substituted (substituted a) ≡ a
substituted-substituted (built f h) = build_path (λ i j. sbox-sbox (f i j) (h i j))

pub substituted-permuted : (a : State) → substituted (permuted a) ≡ permuted (substituted a)
substituted-permuted a = refl

pub added-added : {a k : State} → IsState a → IsState k → added k (added k a) ≡ a
added-added (built f h) (built g l) = build_path {f = λ i j. (f i j ⊕ g i j) ⊕ g i j} {g = f}
    (λ i j. assoc (f i j) (g i j) (g i j) ∙ ap (bit_xor (f i j)) (self (g i j)) ∙ zero_right (f i j))

pub diffused-diffused : {a : State} → IsState a → diffused (diffused a) ≡ a
unfolding twice
diffused-diffused (built f h) = rows_path (λ i j. twice i (f 0 j) (f 1 j) (f 2 j)) (λ i j. row i (f 0 j) (f 1 j) (f 2 j))
    (λ i j hi. twice_is i hi (f 0 j) (f 1 j) (f 2 j) (h 0 j) (h 1 j) (h 2 j))

pub permuted-added : (k a : State) → permuted (added k a) ≡ added (permuted k) (permuted a)
permuted-added k a = refl

pub diffused-added : (k a : State) → diffused (added k a) ≡ added (diffused k) (diffused a)
diffused-added k a =
    build_path {f = λ i j. row_times i (at a 0 j ⊕ at k 0 j) (at a 1 j ⊕ at k 1 j) (at a 2 j ⊕ at k 2 j)}
    {g = λ i j. row_times i (at a 0 j) (at a 1 j) (at a 2 j) ⊕ row_times i (at k 0 j) (at k 1 j) (at k 2 j)}
    (λ i j. row_times_linear i (at a 0 j) (at a 1 j) (at a 2 j) (at k 0 j) (at k 1 j) (at k 2 j))

-- ---- a layer makes a state of a state
pub substituted_state : {a : State} → IsState a → IsState (substituted a)
substituted_state (built f h) = built (λ i j. sbox (f i j)) (λ i j. sbox_byte (f i j) (h i j))

pub permuted_state : {a : State} → IsState a → IsState (permuted a)
permuted_state (built f h) = built (λ i j. f i (bit_xor i j)) (λ i j. h i (bit_xor i j))

pub added_state : {a k : State} → IsState a → IsState k → IsState (added k a)
added_state (built f h) (built g l) = built (λ i j. f i j ⊕ g i j) (λ i j. byte (f i j) (g i j) (h i j) (l i j))

pub diffused_state : {a : State} → IsState a → IsState (diffused a)
diffused_state (built f h) = built (λ i j. row_times i (f 0 j) (f 1 j) (f 2 j)) (λ i j. row_times_byte i (f 0 j) (f 1 j) (f 2 j) (h 0 j) (h 1 j) (h 2 j))

-- ---- lists of the right lengths
column_of : (c : List ℕ) → length c ≡ 3 → c ≡ get_or c 0 0 ∷ get_or c 1 0 ∷ get_or c 2 0 ∷ []
column_of c e = ext_get_or 0 c (get_or c 0 0 ∷ get_or c 1 0 ∷ get_or c 2 0 ∷ []) e (λ i h. at_row i (omega arith))
  where
    at_row : (i : ℕ) → i < 3 → get_or c i 0 ≡ get_or (get_or c 0 0 ∷ get_or c 1 0 ∷ get_or c 2 0 ∷ []) i 0
    at_row zero h = refl
    at_row (suc zero) h = refl
    at_row (suc (suc zero)) h = refl
    at_row (suc (suc (suc i))) h = let z : ⊥ = omega arith in absurd z

state_of_lem : (a : State) → length a ≡ 4 → ((j : ℕ) → j < 4 → length (get_or a j []) ≡ 3) → a ≡ build (at a)
state_of_lem a e h = ext_get_or [] a (build (at a)) e (λ j l. at-column j (omega arith))
  where
    at-column : (j : ℕ) → j < 4 → get_or a j [] ≡ get_or (build (at a)) j []
    at-column zero l = column_of (get_or a 0 []) (h 0 l)
    at-column (suc zero) l = column_of (get_or a 1 []) (h 1 l)
    at-column (suc (suc zero)) l = column_of (get_or a 2 []) (h 2 l)
    at-column (suc (suc (suc zero))) l = column_of (get_or a 3 []) (h 3 l)
    at-column (suc (suc (suc (suc j)))) l = let z : ⊥ = omega arith in absurd z

pub array_state : (a : State) → length a ≡ 4 → ((j : ℕ) → j < 4 → length (get_or a j []) ≡ 3) → ((i j : ℕ) → at a i j < 256) → IsState a
array_state a e h b = subst IsState (sym (state_of_lem a e h)) (built (at a) b)
