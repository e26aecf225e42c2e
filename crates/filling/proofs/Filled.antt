-- A subkey list as it is filled: from the front with the subkeys, and from the back with the turned ones.
use mathlib.Core.Path.{◌≡◌, sym, ap, ap₂, ◌∙◌}
use mathlib.Core.List.{List, ◌++◌}
use Prim.Native.Nat.{ℕ, suc, ◌+◌, ◌*◌}
use native.Mathlib.Omega.{arith}
use native.Mathlib.Numerals.{add-one}
use lib.ListN.{length, drop}
use Rattle.layers.specs.State.{State}
use Rattle.rounds.specs.Rounds.{listed_from}
use Rattle.rounds.proofs.Turned.{length-listed}
use Rattle.block_bytes.specs.Blocks.{bytes_of, list_bytes}
use Rattle.block_bytes.proofs.Put.{overlaid, next_put}
use Rattle.block_bytes.proofs.RoundTrip.{listed_snoc, length-bytes, bytes_snoc}
use Rattle.key_lists.specs.KeyLists.{subkey, subkeys}

-- ---- from the front
-- subkeys 0 to s, and then what stood there
unfoldable pub front : List ℕ → ℕ → List ℕ → List ℕ
front key s out = list_bytes (subkeys key s) ++ drop (12 * (s + 1)) out

length_front_part : (key : List ℕ) (s : ℕ) → length (list_bytes (subkeys key s)) ≡ 12 * (s + 1)
unfolding subkeys
length_front_part key s = length-bytes (subkeys key s) ∙ ap (λ (n : ℕ). 12 * n) (length-listed (suc s) (subkey key) ∙ sym (add-one s))

more : (key : List ℕ) (s : ℕ) → list_bytes (subkeys key (s + 1)) ≡ list_bytes (subkeys key s) ++ bytes_of (subkey key (s + 1))
unfolding subkeys
more key s =
    ap (λ (n : ℕ). list_bytes (listed_from 0 (suc n) (subkey key))) (add-one s)
    ∙ ap list_bytes (listed_snoc 0 (suc s) (subkey key))
    ∙ bytes_snoc (subkeys key s) (subkey key (0 + suc s))
    ∙ ap (λ (n : ℕ). list_bytes (subkeys key s) ++ bytes_of (subkey key n)) (omega arith)

pub front_first : (key out : List ℕ) (k : State) → k ≡ subkey key 0 → overlaid 0 (bytes_of k) out ≡ front key 0 out
unfolding front subkeys listed_from list_bytes
front_first key out k ek = ap (λ (k : State). bytes_of k ++ drop 12 out) ek

pub front_next : (key out₀ out : List ℕ) (s : ℕ) (k : State) → k ≡ subkey key (s + 1) → out ≡ front key s out₀
    → overlaid (12 * (s + 1)) (bytes_of k) out ≡ front key (s + 1) out₀
unfolding front
front_next key out₀ out s k ek eo =
    let l = list_bytes (subkeys key s) in
    let e : 12 * (s + 1) + 12 ≡ 12 * (s + 1 + 1) = omega arith in
    next_put l (bytes_of k) out₀ out (12 * (s + 1)) (length_front_part key s) eo
    ∙ ap₂ (λ (x : List ℕ) (m : ℕ). x ++ drop m out₀) (ap (λ (k : State). l ++ bytes_of k) ek ∙ sym (more key s)) e
