-- The turned list as it is filled from the back: the subkeys of stages 0 to s stand at places R down to R - s.
use mathlib.Core.Path.{◌≡◌, sym, ap, ap₂, ◌∙◌}
use mathlib.Core.Logic.{inl, inr}
use mathlib.Core.Bool.{Bool, cond}
use mathlib.Core.List.{List, [], ◌++◌, append_assoc, append-nil}
use Prim.Native.Nat.{ℕ, suc, ◌+◌, ◌-◌, ◌*◌, ◌≤◌, ◌<◌}
use native.Mathlib.Nat.{eq-or-lt_of_le}
use native.Mathlib.Omega.{arith}
use lib.Dec.{ltb}
use lib.ListN.{length, take, drop, get_or}
use lib.Seq.{drop_at, drop-drop, take-append-le, take-take, length-take-le, drop-cons, drop-length}
use borrow.Author.Tests.{lt-ltb, le-ltb}
use Rattle.layers.specs.State.{State}
use Rattle.layers.specs.Layers.{diffused}
use Rattle.rounds.specs.Rounds.{turned}
use Rattle.rounds.proofs.Turned.{length-listed, get_or-listed, turned-length, turned-first, turned_last, turned_inner}
use Rattle.block_bytes.specs.Blocks.{bytes_of, list_bytes}
use Rattle.key_lists.specs.KeyLists.{subkey, subkeys}
use Rattle.block_bytes.proofs.Put.{overlaid}

module _ (key : List ℕ) (R : ℕ) where
  ks : List State
  ks = subkeys key R

  ks_length : length ks ≡ suc R
  unfolding ks subkeys
  ks_length = length-listed (suc R) (subkey key)

  ks_at : (s : ℕ) → s ≤ R → get_or ks s [] ≡ subkey key s
  unfolding ks subkeys
  ks_at s h = get_or-listed [] (suc R) (subkey key) s (omega arith)

  -- the subkey of stage 0 comes last
  turned_of_first : get_or (turned ks) R [] ≡ subkey key 0
  turned_of_first = turned_last ks R ks_length ∙ ks_at 0 (omega arith)

  -- that of stage s, s > 0, at R - s: diffused, unless s is R
  turned_of : (s : ℕ) → 0 < s → s ≤ R → get_or (turned ks) (R - s) [] ≡ cond (ltb s R) (diffused (subkey key s)) (subkey key s)
  turned_of s p h = elim (eq-or-lt_of_le h) [
    | inl e ↦
        let z : R - s ≡ 0 = omega arith in
        ap (λ (m : ℕ). get_or (turned ks) m []) z ∙ turned-first ks R ks_length ∙ ap (λ (m : ℕ). get_or ks m []) (sym e) ∙ ks_at s h
        ∙ sym (ap (λ (b : Bool). cond b (diffused (subkey key s)) (subkey key s)) (le-ltb s R (omega arith)))
    | inr l ↦
        let z : R - (R - s) ≡ s = omega arith in
        turned_inner ks R ks_length (R - s) (omega arith) (omega arith) ∙ ap diffused (ap (λ (m : ℕ). get_or ks m []) z ∙ ks_at s h)
        ∙ sym (ap (λ (b : Bool). cond b (diffused (subkey key s)) (subkey key s)) (lt-ltb s R l))
  ]

  -- places R - s to R, before and after which stands what stood there
  unfoldable pub back : ℕ → List ℕ → List ℕ
  unfolding ks
  back s out = take (12 * (R - s)) out ++ (list_bytes (drop (R - s) (turned (subkeys key R))) ++ drop (12 * (R + 1)) out)

  -- one subkey more, in bytes
  listed : (p : ℕ) → p ≤ R → list_bytes (drop p (turned ks)) ≡ bytes_of (get_or (turned ks) p []) ++ list_bytes (drop (suc p) (turned ks))
  unfolding list_bytes
  listed p h = ap list_bytes (drop-cons (turned ks) p [] (omega (arith, turned-length ks R ks_length)))

  ended : list_bytes (drop (suc R) (turned ks)) ≡ []
  unfolding list_bytes
  ended = let l = turned-length ks R ks_length in ap list_bytes (ap (λ (m : ℕ). drop m (turned ks)) (sym l) ∙ drop-length (turned ks))

  -- ---- the first subkey
  pub back-first : (out : List ℕ) (k : State) → k ≡ subkey key 0 → overlaid (12 * R) (bytes_of k) out ≡ back 0 out
  unfolding back ks
  back-first out k ek =
      let e : 12 * R + 12 ≡ 12 * (R + 1) = omega arith in
      let z : R ≡ R - 0 = omega arith in
      let last = ap (λ (x : List ℕ). bytes_of (get_or (turned ks) R []) ++ x) (sym ended) ∙ sym (listed R (omega arith)) in
      ap (λ (x : List ℕ). take (12 * R) out ++ (bytes_of k ++ x)) (drop-drop 12 (12 * R) out ∙ ap (λ (m : ℕ). drop m out) e)
      ∙ ap (λ (x : List ℕ). take (12 * R) out ++ (x ++ drop (12 * (R + 1)) out)) (ap bytes_of (ek ∙ sym turned_of_first) ∙ sym (append-nil _) ∙ last)
      ∙ ap (λ (m : ℕ). take (12 * m) out ++ (list_bytes (drop m (turned ks)) ++ drop (12 * (R + 1)) out)) z

  -- ---- the next one
  pub back-next : (s : ℕ) (out₀ out : List ℕ) (k : State) → s < R → 12 * (R + 1) ≤ length out₀
      → k ≡ cond (ltb (s + 1) R) (diffused (subkey key (s + 1))) (subkey key (s + 1)) → out ≡ back s out₀
      → overlaid (12 * (R - (s + 1))) (bytes_of k) out ≡ back (s + 1) out₀
  unfolding back ks
  back-next s out₀ out k h room ek eo =
      let p = R - (s + 1) in
      let n = 12 * (R - s) in
      let e : 12 * p + 12 ≡ n = omega arith in
      let q : suc p ≡ R - s = omega arith in
      let l : length (take n out₀) ≡ n = length-take-le n out₀ (omega arith) in
      let y = list_bytes (drop (R - s) (turned ks)) ++ drop (12 * (R + 1)) out₀ in
      ap (overlaid (12 * p) (bytes_of k)) eo
      ∙ ap₂ (λ (x z : List ℕ). x ++ (bytes_of k ++ z))
      (take-append-le (12 * p) (take n out₀) y (omega arith) ∙ take-take (12 * p) n out₀ (omega arith))
      (drop-drop 12 (12 * p) (take n out₀ ++ y) ∙ ap (λ (m : ℕ). drop m (take n out₀ ++ y)) e ∙ drop_at (take n out₀) y n l)
      ∙ ap (λ (x : List ℕ). take (12 * p) out₀ ++ x)
      (ap (λ (k : State). bytes_of k ++ y) (ek ∙ sym (turned_of (s + 1) (omega arith) (omega arith)))
      ∙ sym (append_assoc (bytes_of (get_or (turned ks) p [])) (list_bytes (drop (R - s) (turned ks))) (drop (12 * (R + 1)) out₀))
      ∙ ap (λ (x : List ℕ). x ++ drop (12 * (R + 1)) out₀)
      (ap (λ (m : ℕ). bytes_of (get_or (turned ks) p []) ++ list_bytes (drop m (turned ks))) (sym q) ∙ sym (listed p (omega arith))))

  -- ---- the whole list
  pub back_whole : (out₀ : List ℕ) → back R out₀ ≡ list_bytes (turned (subkeys key R)) ++ drop (12 * (R + 1)) out₀
  unfolding back ks
  back_whole out₀ =
      let z : R - R ≡ 0 = omega arith in
      ap (λ (m : ℕ). take (12 * m) out₀ ++ (list_bytes (drop m (turned ks)) ++ drop (12 * (R + 1)) out₀)) z
