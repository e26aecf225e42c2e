-- Parts put one behind the other.
use mathlib.Core.Path.{◌≡◌, sym, ap, ap₂, ◌∙◌}
use mathlib.Core.List.{List, ◌++◌, append_assoc}
use Prim.Native.Nat.{ℕ, ◌+◌, ◌≤◌}
use native.Mathlib.Omega.{arith}
use lib.ListN.{length, take, drop, length-append}
use lib.Seq.{length-take-le, take_at, drop-append-add, drop-drop}
use Rattle.block_bytes.proofs.Put.{placed}

-- ---- part behind part: what is put right behind p, where what follows p is as it was at first
pub placed_behind : (at : ℕ) (p bytes out₀ : List ℕ) → length p ≡ at
    → placed at bytes (p ++ drop at out₀) ≡ (p ++ bytes) ++ drop (at + length bytes) out₀
unfolding placed
placed_behind at p bytes out₀ l =
    let e : at + length bytes ≡ length p + length bytes = omega arith in
    ap₂ (λ (x y : List ℕ). x ++ (bytes ++ y)) (take_at p (drop at out₀) at l)
    (ap (λ (n : ℕ). drop n (p ++ drop at out₀)) e ∙ drop-append-add p (drop at out₀) (length bytes) ∙ drop-drop (length bytes) at out₀)
    ∙ sym (append_assoc p bytes (drop (at + length bytes) out₀))

-- three parts, one behind the other
pub three_parts : (at : ℕ) (x y z l₀ l₁ l₂ l₃ : List ℕ) → at ≤ length l₀ → length x ≡ 5 → length y ≡ 12 → length z ≡ 24
    → l₁ ≡ placed at x l₀ → l₂ ≡ placed (at + 5) y l₁ → l₃ ≡ placed (at + 17) z l₂
    → l₃ ≡ take at l₀ ++ ((x ++ (y ++ z)) ++ drop (at + 41) l₀)
unfolding placed
three_parts at x y z l₀ l₁ l₂ l₃ room ex ey ez e₁ e₂ e₃ =
    let p = take at l₀ in
    let lx : length (p ++ x) ≡ at + 5 = length-append p x ∙ ap₂ ◌+◌ (length-take-le at l₀ room) ex in
    let ly : length ((p ++ x) ++ y) ≡ at + 17 = length-append (p ++ x) y ∙ omega (arith, lx, ey) in
    let nx : at + length x ≡ at + 5 = omega (arith, ex) in
    let ny : at + 5 + length y ≡ at + 17 = omega (arith, ey) in
    let nz : at + 17 + length z ≡ at + 41 = omega (arith, ez) in
    let f₁ : l₁ ≡ (p ++ x) ++ drop (at + 5) l₀ =
    e₁ ∙ ap (λ (n : ℕ). p ++ (x ++ drop n l₀)) nx ∙ sym (append_assoc p x (drop (at + 5) l₀)) in
    let f₂ : l₂ ≡ ((p ++ x) ++ y) ++ drop (at + 17) l₀ =
    e₂ ∙ ap (placed (at + 5) y) f₁ ∙ placed_behind (at + 5) (p ++ x) y l₀ lx ∙ ap (λ (n : ℕ). ((p ++ x) ++ y) ++ drop n l₀) ny in
    e₃ ∙ ap (placed (at + 17) z) f₂ ∙ placed_behind (at + 17) ((p ++ x) ++ y) z l₀ ly
    ∙ ap (λ (n : ℕ). (((p ++ x) ++ y) ++ z) ++ drop n l₀) nz
    ∙ simp append_assoc
