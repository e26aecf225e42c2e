-- The rounds over any list of subkeys, and the turned list: document 01, "The layers", Rounds and Turned list; paper 000,
-- sections 3.9 and 3.10. A list has R + 1 subkeys, so its length tells R.
use Rattle.std.specs.Prelude.{cond, ◌||◌, List, [], ◌∷◌, ℕ, zero, suc, ◌-◌, eqb, length, get_or}
use Rattle.layers.specs.State.{State, IsState}
use Rattle.layers.specs.Layers.{substituted, permuted, diffused, added}

-- rounds 1 to R - 1: S-box, permutation, diffusion, add the subkey
unfoldable pub round : State → State → State
round k a = added k (diffused (permuted (substituted a)))

-- the last round: S-box, permutation, add subkey R
unfoldable pub last_round : State → State → State
last_round k a = added k (permuted (substituted a))

-- the rounds under subkeys 1 to R. The formula of the paper needs R of 1 or more; no subkey is no round, by convention
unfoldable pub rounds : List State → State → State
rounds [] a = a
rounds (k ∷ []) a = last_round k a
rounds (k ∷ k' ∷ ks) a = rounds (k' ∷ ks) (round k a)

-- the whole enciphering: add subkey 0, then the rounds
unfoldable pub enciphered : List State → State → State
enciphered [] a = a
enciphered (k ∷ ks) a = rounds ks (added k a)

-- the list of f r for the n numbers from r on
unfoldable pub listed_from : {A : Type 0} → ℕ → ℕ → (ℕ → A) → List A
listed_from r zero f = []
listed_from r (suc n) f = f r ∷ listed_from (suc r) n f

-- subkey r of the turned list, where R is the last index: first and last change places, and for r between them it is the diffusion of
-- subkey R - r
abbrev pub turned_at : List State → ℕ → ℕ → State
turned_at ks R r = cond (eqb r 0 || eqb r R) (get_or ks (R - r) []) (diffused (get_or ks (R - r) []))

-- the turned list (the paper's decryption keys)
unfoldable pub turned : List State → List State
turned ks = listed_from 0 (length ks) (turned_at ks (length ks - 1))

-- every subkey of a list is a state
abbrev pub AllStates : List State → Type 0
AllStates [] = Unit {0}
AllStates (k ∷ ks) = IsState k × AllStates ks
