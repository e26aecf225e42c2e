-- A page as it is made in the output: header and payload laid out, the payload chained, the check put after it.
use mathlib.Core.Path.{◌≡◌, refl, sym, ap, ap₂, ◌∙◌}
use mathlib.Core.List.{List, [], ◌++◌, append_assoc}
use Prim.Native.Nat.{ℕ, ◌+◌, ◌-◌, ◌≤◌}
use native.Mathlib.Omega.{arith}
use lib.ListN.{length, take, drop, replicate, length-append, length-take, length-drop}
use lib.Seq.{take_at, drop_at}
use Rattle.layers.specs.State.{State}
use Rattle.block_bytes.specs.Blocks.{state_of}
use Rattle.block_bytes.proofs.Put.{put_after, put_next}
use Rattle.chaining.specs.Chaining.{chained_bytes}
use Rattle.pages.specs.Pages.{filled, stored, check_over}
use Rattle.pages.proofs.Lengths.{length-filled, length-stored}

-- ---- laid out
module _ (head payload out₀ : List ℕ) (twelve : length head ≡ 12) (fits : length payload ≤ 492) (size : length out₀ ≡ 512) where
  pub laid_out : (o₁ o₂ last : List ℕ)
      → o₁ ≡ take 0 out₀ ++ (head ++ drop (0 + length head) out₀)
      → o₂ ≡ take 12 o₁ ++ (payload ++ drop (12 + length payload) o₁)
      → last ≡ replicate (length (take (504 - (12 + length payload)) (drop (12 + length payload) o₂))) 0
      → take (12 + length payload) o₂ ++ (last ++ drop (504 - (12 + length payload)) (drop (12 + length payload) o₂))
      ≡ head ++ (filled payload ++ drop 504 out₀)
  laid_out o₁ o₂ last e₁ e₂ el =
      let u = length payload in
      let m = 504 - (12 + u) in
      let start : 0 + length head ≡ 12 = omega (arith, twelve) in
      let first : o₁ ≡ head ++ drop 12 out₀ = e₁ ∙ put_next [] head out₀ out₀ 0 refl refl ∙ ap (λ (n : ℕ). head ++ drop n out₀) start in
      let second = e₂ ∙ put_next head payload out₀ o₁ 12 twelve first in
      let done : length (head ++ payload) ≡ 12 + u = length-append head payload ∙ ap (λ (n : ℕ). n + u) twelve in
      let behind = ap (drop (12 + u)) second ∙ drop_at (head ++ payload) (drop (12 + u) out₀) (12 + u) done in
      let count : length (take m (drop (12 + u) o₂)) ≡ 492 - u =
      ap (λ (l : List ℕ). length (take m l)) behind ∙ omega (arith, length-take m (drop (12 + u) out₀), length-drop (12 + u) out₀) in
      let zeros : last ≡ replicate (492 - u) 0 = el ∙ ap (λ (n : ℕ). replicate n 0) count in
      let end : 12 + u + m ≡ 504 = omega arith in
      put_after (head ++ payload) last out₀ o₂ (12 + u) m done second
      ∙ ap₂ (λ (l : List ℕ) (n : ℕ). ((head ++ payload) ++ l) ++ drop n out₀) zeros end
      ∙ ap (λ (l : List ℕ). l ++ drop 504 out₀) (append_assoc head payload (replicate (492 - u) 0))
      ∙ append_assoc head (filled payload) (drop 504 out₀)

-- ---- chained, and the check
module _ (f h : State → State) (head payload rest : List ℕ) (twelve : length head ≡ 12) (fits : length payload ≤ 492) where
  -- the payload chained in its place
  made-stored : (o₁ o₂ : List ℕ) → o₁ ≡ head ++ (filled payload ++ rest)
      → o₂ ≡ take 12 o₁ ++ (chained_bytes f (f (state_of (take 12 o₁))) (take 492 (drop 12 o₁)) ++ drop 504 o₁)
      → o₂ ≡ stored f head payload ++ rest
  unfolding stored
  made-stored o₁ o₂ e₁ e₂ =
      let p = filled payload in
      let lp = length-filled payload fits in
      let t = ap (take 12) e₁ ∙ take_at head (p ++ rest) 12 twelve in
      let d = ap (drop 12) e₁ ∙ drop_at head (p ++ rest) 12 twelve in
      let whole : o₁ ≡ (head ++ p) ++ rest = e₁ ∙ sym (append_assoc head p rest) in
      let lw : length (head ++ p) ≡ 504 = length-append head p ∙ omega (arith, twelve, lp) in
      let r = ap (drop 504) whole ∙ drop_at (head ++ p) rest 504 lw in
      let q = ap (take 492) d ∙ take_at p rest 492 (omega (arith, lp)) in
      e₂ ∙ ap₂ (λ (x y : List ℕ). x ++ (chained_bytes f (f (state_of x)) y ++ drop 504 o₁)) t q
      ∙ ap (λ (x : List ℕ). head ++ (chained_bytes f (f (state_of head)) p ++ x)) r
      ∙ sym (append_assoc head (chained_bytes f (f (state_of head)) p) rest)

  -- and the check put after it
  pub made-page : (o₁ o₂ o₃ : List ℕ) → o₁ ≡ head ++ (filled payload ++ rest)
      → o₂ ≡ take 12 o₁ ++ (chained_bytes f (f (state_of (take 12 o₁))) (take 492 (drop 12 o₁)) ++ drop 504 o₁)
      → o₃ ≡ take 504 o₂ ++ check_over h (take 504 o₂)
      → o₃ ≡ stored f head payload ++ check_over h (stored f head payload)
  made-page o₁ o₂ o₃ e₁ e₂ e₃ =
      let s = stored f head payload in
      e₃ ∙ ap (λ (x : List ℕ). x ++ check_over h x) (ap (take 504) (made-stored o₁ o₂ e₁ e₂) ∙ take_at s rest 504 (length-stored f head payload twelve fits))
