-- Bytes put at a place of a list.
use mathlib.Core.Path.{◌≡◌, sym, ap, ap₂, ◌∙◌}
use mathlib.Core.List.{List, [], ◌++◌, append_assoc, append-nil}
use Prim.Native.Nat.{ℕ, ◌+◌, ◌-◌, ◌≤◌}
use native.Mathlib.Nat.{zero-add}
use native.Mathlib.Omega.{arith}
use lib.ListN.{length, take, drop, length-drop, drop_of_length-le}
use lib.Seq.{take_at, take_all, drop_at, drop-drop}

-- bytes at a place of a list, with what stands before and after them
unfoldable pub placed : ℕ → List ℕ → List ℕ → List ℕ
placed at bytes out = take at out ++ (bytes ++ drop (at + length bytes) out)

-- bytes put at the start
pub put_first : (bytes out : List ℕ) → take 0 out ++ (bytes ++ drop (0 + length bytes) out) ≡ bytes ++ drop (length bytes) out
put_first bytes out = ap (λ (m : ℕ). bytes ++ drop m out) (zero-add (length bytes))

-- ---- twelve bytes put at a place of a list, as code lends the rest of the list from there on
abbrev pub overlaid : ℕ → List ℕ → List ℕ → List ℕ
overlaid at bytes out = take at out ++ (bytes ++ drop 12 (drop at out))

pub part_written : (at : ℕ) (out bytes last : List ℕ) → at ≤ length out
    → last ≡ bytes ++ drop 12 (take (length out - at) (drop at out))
    → take at out ++ (last ++ drop (length out - at) (drop at out)) ≡ overlaid at bytes out
part_written at out bytes last h e =
    let n = length out - at in
    let l : length (drop at out) ≡ n = length-drop at out in
    let t : take n (drop at out) ≡ drop at out = take_all n (drop at out) (omega arith) in
    let d : drop n (drop at out) ≡ [] = drop_of_length-le (drop at out) {i = n} (omega arith) in
    ap₂ (λ (x y : List ℕ). take at out ++ (x ++ y)) (e ∙ ap (λ (x : List ℕ). bytes ++ drop 12 x) t) d
    ∙ ap (λ (x : List ℕ). take at out ++ x) (append-nil (bytes ++ drop 12 (drop at out)))

-- ---- bytes put after some that were put: what stands behind them is what stood there
pub put_after : (done bytes out₀ out : List ℕ) (n m : ℕ) → length done ≡ n → out ≡ done ++ drop n out₀
    → take n out ++ (bytes ++ drop m (drop n out)) ≡ (done ++ bytes) ++ drop (n + m) out₀
put_after done bytes out₀ out n m l e =
    ap (λ (x : List ℕ). take n x ++ (bytes ++ drop m (drop n x))) e
    ∙ ap₂ (λ (x y : List ℕ). x ++ (bytes ++ drop m y)) (take_at done (drop n out₀) n l) (drop_at done (drop n out₀) n l)
    ∙ ap (λ (x : List ℕ). done ++ (bytes ++ x)) (drop-drop m n out₀)
    ∙ sym (append_assoc done bytes (drop (n + m) out₀))

pub next_put : (done bytes out₀ out : List ℕ) (n : ℕ) → length done ≡ n → out ≡ done ++ drop n out₀
    → overlaid n bytes out ≡ (done ++ bytes) ++ drop (n + 12) out₀
next_put done bytes out₀ out n l e = put_after done bytes out₀ out n 12 l e

-- as `blocks::put_bytes` puts them
pub put_next : (done bytes out₀ out : List ℕ) (n : ℕ) → length done ≡ n → out ≡ done ++ drop n out₀
    → take n out ++ (bytes ++ drop (n + length bytes) out) ≡ (done ++ bytes) ++ drop (n + length bytes) out₀
put_next done bytes out₀ out n l e =
    ap (λ (x : List ℕ). take n out ++ (bytes ++ x)) (sym (drop-drop (length bytes) n out)) ∙ put_after done bytes out₀ out n (length bytes) l e
