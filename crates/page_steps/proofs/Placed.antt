-- One byte more put at a place of a list.
use mathlib.Core.Path.{◌≡◌, sym, ap, ap₂, ◌∙◌}
use mathlib.Core.List.{List, [], ◌∷◌, ◌++◌, append_assoc}
use Prim.Native.Nat.{ℕ, suc, ◌+◌, ◌≤◌, ◌<◌}
use native.Mathlib.Omega.{arith}
use native.Mathlib.Numerals.{add-one}
use lib.ListN.{length, get_or, take, drop, set, length-append}
use lib.Seq.{length-take-le, take-suc, drop-cons, set_at}

module _ (at i : ℕ) (bytes out₀ : List ℕ) (h : i < length bytes) (room : at + length bytes ≤ length out₀) where
  pub placed_next : (out : List ℕ) → out ≡ take at out₀ ++ (take i bytes ++ drop (at + i) out₀)
      → set out (at + i) (get_or bytes i 0) ≡ take at out₀ ++ (take (i + 1) bytes ++ drop (at + (i + 1)) out₀)
  placed_next out e =
      let p = take at out₀ ++ take i bytes in
      let b = get_or bytes i 0 in
      let r = drop (suc (at + i)) out₀ in
      let la = length-take-le at out₀ (omega arith) in
      let li = length-take-le i bytes (omega arith) in
      let l : length p ≡ at + i = length-append (take at out₀) (take i bytes) ∙ ap₂ ◌+◌ la li in
      let n : suc (at + i) ≡ at + (i + 1) = omega arith in
      ap (λ (x : List ℕ). set x (at + i) b)
      (e ∙ sym (append_assoc (take at out₀) (take i bytes) (drop (at + i) out₀))
      ∙ ap (λ (x : List ℕ). p ++ x) (drop-cons out₀ (at + i) 0 (omega arith)))
      ∙ set_at p (get_or out₀ (at + i) 0) r b (at + i) l
      ∙ append_assoc (take at out₀) (take i bytes) (b ∷ r)
      ∙ ap (λ (x : List ℕ). take at out₀ ++ x)
      (sym (append_assoc (take i bytes) (b ∷ []) r)
      ∙ ap₂ ◌++◌ (sym (ap (λ (m : ℕ). take m bytes) (add-one i) ∙ take-suc bytes i 0 h)) (ap (λ (m : ℕ). drop m out₀) n))
