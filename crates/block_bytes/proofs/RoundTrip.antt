-- States and subkey lists as bytes, and back.
use mathlib.Core.Path.{◌≡◌, refl, sym, ap, ap₂, ◌∙◌}
use mathlib.Core.List.{List, [], ◌∷◌, ◌++◌, append_assoc, append-nil}
use Prim.Native.Nat.{ℕ, zero, suc, ◌+◌, ◌*◌, ◌/◌, ◌≤◌, ◌<◌}
use native.Mathlib.Nat.{not-suc-le-zero, le_of_suc-le-suc, add-zero, zero-add}
use native.Mathlib.Omega.{arith}
use lib.ListN.{length, get_or, take, drop, length-append, length-drop}
use lib.Seq.{ext_get_or, take_at, take_all, take-add, length-take-le, drop-nil, drop-append-add}
use Rattle.layers.specs.State.{State, IsState, built}
use Rattle.rounds.specs.Rounds.{listed_from, AllStates}
use Rattle.block_bytes.specs.Blocks.{state_of, bytes_of, list_states, list_bytes}
use Rattle.basics.specs.Bytes.{AreBytes}
use Rattle.basics.proofs.Bytes.{take-bytes, drop-bytes}
use Rattle.block_bytes.proofs.Lists.{length_states, state_at}

-- ---- a state and its bytes
pub state_bytes : {a : State} → IsState a → state_of (bytes_of a) ≡ a
state_bytes (built f h) = refl

twelve : (P : ℕ → Type 0) → P 0 → P 1 → P 2 → P 3 → P 4 → P 5 → P 6 → P 7 → P 8 → P 9 → P 10 → P 11 → (i : ℕ) → i < 12 → P i
twelve P a b c d e f g h i j k l zero u = a
twelve P a b c d e f g h i j k l (suc zero) u = b
twelve P a b c d e f g h i j k l (suc (suc zero)) u = c
twelve P a b c d e f g h i j k l (suc (suc (suc zero))) u = d
twelve P a b c d e f g h i j k l (suc (suc (suc (suc zero)))) u = e
twelve P a b c d e f g h i j k l (suc (suc (suc (suc (suc zero))))) u = f
twelve P a b c d e f g h i j k l (suc (suc (suc (suc (suc (suc zero)))))) u = g
twelve P a b c d e f g h i j k l (suc (suc (suc (suc (suc (suc (suc zero))))))) u = h
twelve P a b c d e f g h i j k l (suc (suc (suc (suc (suc (suc (suc (suc zero)))))))) u = i
twelve P a b c d e f g h i j k l (suc (suc (suc (suc (suc (suc (suc (suc (suc zero))))))))) u = j
twelve P a b c d e f g h i j k l (suc (suc (suc (suc (suc (suc (suc (suc (suc (suc zero)))))))))) u = k
twelve P a b c d e f g h i j k l (suc (suc (suc (suc (suc (suc (suc (suc (suc (suc (suc zero))))))))))) u = l
twelve P a b c d e f g h i j k l (suc (suc (suc (suc (suc (suc (suc (suc (suc (suc (suc (suc m)))))))))))) u = let z : ⊥ = omega arith in absurd z

pub bytes_state : (b : List ℕ) → length b ≡ 12 → bytes_of (state_of b) ≡ b
bytes_state b e = ext_get_or 0 (bytes_of (state_of b)) b (sym e)
    (twelve (λ (i : ℕ). get_or (bytes_of (state_of b)) i 0 ≡ get_or b i 0) refl refl refl refl refl refl refl refl refl refl refl refl)

-- ---- lists
pub listed_snoc : {A : Type 0} (r n : ℕ) (f : ℕ → A) → listed_from r (suc n) f ≡ listed_from r n f ++ (f (r + n) ∷ [])
unfolding listed_from
listed_snoc r zero f = ap (λ (m : ℕ). f m ∷ []) (sym (add-zero r))
listed_snoc {A} r (suc n) f =
    ap {B = List A} (λ l. f r ∷ l) (listed_snoc (suc r) n f ∙ ap (λ (m : ℕ). listed_from (suc r) n f ++ (f m ∷ [])) (omega arith))

pub length-bytes : (ks : List State) → length (list_bytes ks) ≡ 12 * length ks
unfolding list_bytes
length-bytes [] = refl
length-bytes (k ∷ ks) = let h = length-bytes ks in length-append (bytes_of k) (list_bytes ks) ∙ omega arith

pub bytes_snoc : (ks : List State) (k : State) → list_bytes (ks ++ (k ∷ [])) ≡ list_bytes ks ++ bytes_of k
unfolding list_bytes
bytes_snoc [] k = append-nil (bytes_of k)
bytes_snoc (x ∷ ks) k = ap (λ (l : List ℕ). bytes_of x ++ l) (bytes_snoc ks k) ∙ sym (append_assoc (bytes_of x) (list_bytes ks) (bytes_of k))

pub bytes_drop : (ks : List State) (k : ℕ) → drop (12 * k) (list_bytes ks) ≡ list_bytes (drop k ks)
unfolding list_bytes
bytes_drop ks zero = refl
bytes_drop [] (suc k) = drop-nil (12 * suc k)
bytes_drop (x ∷ ks) (suc k) =
    let n : 12 * suc k ≡ 12 + 12 * k = omega arith in
    ap (λ (m : ℕ). drop m (bytes_of x ++ list_bytes ks)) n ∙ drop-append-add (bytes_of x) (list_bytes ks) (12 * k) ∙ bytes_drop ks k

-- the twelve bytes of subkey r
bytes-at : (ks : List State) (r : ℕ) → r < length ks → take 12 (drop (12 * r) (list_bytes ks)) ≡ bytes_of (get_or ks r [])
unfolding list_bytes
bytes-at [] r h = absurd (not-suc-le-zero h)
bytes-at (k ∷ ks) zero h = take_at (bytes_of k) (list_bytes ks) 12 refl
bytes-at (k ∷ ks) (suc r) h =
    ap (λ (m : ℕ). take 12 (drop m (bytes_of k ++ list_bytes ks))) e
    ∙ ap (take 12) (drop-append-add (bytes_of k) (list_bytes ks) (12 * r))
    ∙ bytes-at ks r (le_of_suc-le-suc h)
  where
    e : 12 * suc r ≡ 12 + 12 * r
    e = omega arith

state_in : (ks : List State) (r : ℕ) → AllStates ks → r < length ks → IsState (get_or ks r [])
state_in [] r a h = absurd (not-suc-le-zero h)
state_in (k ∷ ks) zero a h = a.0
state_in (k ∷ ks) (suc r) a h = state_in ks r a.1 (le_of_suc-le-suc h)

pub list_bytes_lem : (ks : List State) → AllStates ks → list_states (list_bytes ks) ≡ ks
list_bytes_lem ks a =
    let l : length (list_states (list_bytes ks)) ≡ length ks = length_states (list_bytes ks) ∙ omega (arith, length-bytes ks) in
    ext_get_or [] (list_states (list_bytes ks)) ks l (λ r h.
    state_at (list_bytes ks) r (omega (arith, length-bytes ks)) ∙ ap state_of (bytes-at ks r (omega arith)) ∙ state_bytes (state_in ks r a (omega arith)))

-- ---- bytes make states
pub block_state : (b : List ℕ) → AreBytes b → IsState (state_of b)
block_state b h = built (λ i j. get_or b (i + 3 * j) 0) (λ i j. h (i + 3 * j))

pub listed_states : (r n : ℕ) (f : ℕ → State) → ((s : ℕ) → IsState (f s)) → AllStates (listed_from r n f)
unfolding listed_from
listed_states r zero f h = tt
listed_states r (suc n) f h = (h r, listed_states (suc r) n f h)

-- a part of bytes is bytes
pub part_bytes : (n m : ℕ) (xs : List ℕ) → AreBytes xs → AreBytes (take n (drop m xs))
part_bytes n m xs h = take-bytes n (drop m xs) (drop-bytes m xs h)

pub list_states_lem : (list : List ℕ) → AreBytes list → AllStates (list_states list)
unfolding list_states
list_states_lem list h = listed_states 0 (length list / 12) (λ r. state_of (take 12 (drop (12 * r) list)))
    (λ r. block_state (take 12 (drop (12 * r) list)) (part_bytes 12 (12 * r) list h))

-- ---- whole blocks as states, and back
first-blocks : (bytes : List ℕ) (k : ℕ) → 12 * k ≤ length bytes
    → list_bytes (listed_from 0 k (λ r. state_of (take 12 (drop (12 * r) bytes)))) ≡ take (12 * k) bytes
unfolding list_bytes listed_from
first-blocks bytes zero h = refl
first-blocks bytes (suc k) h =
    let block : ℕ → List ℕ = λ r. take 12 (drop (12 * r) bytes) in
    let l : length (block k) ≡ 12 = length-take-le 12 (drop (12 * k) bytes) (omega (arith, length-drop (12 * k) bytes)) in
    let n : 12 * k + 12 ≡ 12 * suc k = omega arith in
    ap list_bytes (listed_snoc 0 k (λ r. state_of (block r))
    ∙ ap (λ (m : ℕ). listed_from 0 k (λ r. state_of (block r)) ++ (state_of (block m) ∷ [])) (zero-add k))
    ∙ bytes_snoc (listed_from 0 k (λ r. state_of (block r))) (state_of (block k))
    ∙ ap₂ ◌++◌ (first-blocks bytes k (omega arith)) (bytes_state (block k) l)
    ∙ sym (take-add (12 * k) 12 bytes) ∙ ap (λ (m : ℕ). take m bytes) n

pub states_list : (bytes : List ℕ) (n : ℕ) → length bytes ≡ 12 * n → list_bytes (list_states bytes) ≡ bytes
unfolding list_states
states_list bytes n e =
    first-blocks bytes (length bytes / 12) (omega arith) ∙ take_all (12 * (length bytes / 12)) bytes (omega arith)
