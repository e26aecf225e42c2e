-- The bytes past the key: what the test that they are zero says of a stage in 24 bytes.
use mathlib.Core.Path.{◌≡◌, sym, ap, ◌∙◌}
use mathlib.Core.Bool.{true}
use mathlib.Core.List.{List, ◌++◌}
use Prim.Native.Nat.{ℕ, ◌-◌}
use native.Mathlib.Omega.{arith}
use lib.ListN.{length, drop, replicate, length-drop}
use lib.Seq.{drop_at}
use Rattle.byte_slices.specs.Slices.{all_zero}
use Rattle.byte_slices.proofs.Zeros.{zeros, zeros_are}
use Rattle.stages.specs.Columns.{padded}

-- all that holders have to know of a stage in 24 bytes
padded-is : (k : List ℕ) (n : ℕ) → length k ≡ n → padded k ≡ k ++ replicate (24 - n) 0
unfolding padded
padded-is k n e = ap (λ (m : ℕ). k ++ replicate (24 - m) 0) e

pub padded-zeros : (k : List ℕ) (n : ℕ) → length k ≡ n → all_zero (drop n (padded k)) ≡ true
padded-zeros k n e =
    ap (λ (l : List ℕ). all_zero (drop n l)) (padded-is k n e)
    ∙ ap all_zero (drop_at k (replicate (24 - n) 0) n e)
    ∙ zeros (24 - n)

-- a stage before the zeros that stood past another
pub zeros_kept : (x k : List ℕ) (n : ℕ) → length x ≡ n → length k ≡ 24 → all_zero (drop n k) ≡ true → x ++ drop n k ≡ padded x
zeros_kept x k n ex ek z =
    let e : length (drop n k) ≡ 24 - n = omega (arith, length-drop n k) in
    ap (λ (l : List ℕ). x ++ l) (zeros_are (drop n k) z ∙ ap (λ (m : ℕ). replicate m 0) e) ∙ sym (padded-is x n ex)
