-- Bytes written block by block, twelve bytes a block: what is done, and what is left to do.
use mathlib.Core.Path.{◌≡◌, refl, sym, ap, ap₂, ◌∙◌}
use mathlib.Core.List.{List, [], ◌++◌, append_assoc, append-nil}
use Prim.Native.Nat.{ℕ, ◌+◌, ◌-◌, ◌*◌, ◌≤◌}
use native.Mathlib.Omega.{arith}
use lib.ListN.{length, take, drop, length-append, length-drop}
use lib.Seq.{drop_at, drop-length}
use Rattle.block_bytes.proofs.Put.{part_written, next_put}

-- of the whole that is to be written, i blocks are done, and this is left
pub record Blockwise (whole left out₀ out : List ℕ) (i : ℕ) : Type 0 where
  pub done : List ℕ
  pub so_far : length done ≡ 12 * i
  pub is : out ≡ done ++ drop (12 * i) out₀
  pub rest : whole ≡ done ++ left
  pub same : length out ≡ length out₀
  pub most : 12 * i ≤ length out₀

pub blocks_begin : (whole out₀ : List ℕ) → Blockwise whole whole out₀ out₀ 0
blocks_begin whole out₀ = record { done = []; so_far = refl; is = refl; rest = refl; same = refl; most = omega arith }

module _ {whole left out₀ out : List ℕ} {i : ℕ} (b : Blockwise whole left out₀ out i) where
  -- what is not written yet is as it was
  pub blocks_unwritten : drop (12 * i) out ≡ drop (12 * i) out₀
  blocks_unwritten = ap (drop (12 * i)) b.is ∙ drop_at b.done (drop (12 * i) out₀) (12 * i) b.so_far

  -- the next block written, as code lends the rest from its place on
  pub blocks_go_on : (block left' last : List ℕ) → length block ≡ 12 → left ≡ block ++ left' → 12 * (i + 1) ≤ length out₀
      → last ≡ block ++ drop 12 (take (length out - 12 * i) (drop (12 * i) out))
      → Blockwise whole left' out₀ (take (12 * i) out ++ (last ++ drop (length out - 12 * i) (drop (12 * i) out))) (i + 1)
  blocks_go_on block left' last twelve e fits el =
      let n : 12 * i + 12 ≡ 12 * (i + 1) = omega arith in
      let w = part_written (12 * i) out block last (omega (arith, b.same)) el ∙ next_put b.done block out₀ out (12 * i) b.so_far b.is in
      let ld : length (b.done ++ block) ≡ 12 * (i + 1) = omega (arith, length-append b.done block, b.so_far) in
      record {
        done = b.done ++ block;
        so_far = ld;
        is = w ∙ ap (λ (m : ℕ). (b.done ++ block) ++ drop m out₀) n;
        rest = b.rest ∙ ap (λ (l : List ℕ). b.done ++ l) e ∙ sym (append_assoc b.done block left');
        same = ap length w ∙ omega (arith, length-append (b.done ++ block) (drop (12 * i + 12) out₀), ld, length-drop (12 * i + 12) out₀);
        most = fits;
      }

  pub blocks_end : (n : ℕ) → 12 * i ≡ n → left ≡ [] → out ≡ whole ++ drop n out₀
  blocks_end n en e =
      b.is ∙ ap₂ ◌++◌ (sym (b.rest ∙ ap (λ (l : List ℕ). b.done ++ l) e ∙ append-nil b.done)) (ap (λ (m : ℕ). drop m out₀) en)

  -- where the output has room for no more
  pub blocks_all : length out₀ ≡ 12 * i → left ≡ [] → out ≡ whole
  blocks_all en e =
      blocks_end (length out₀) (sym en) e ∙ ap (λ (l : List ℕ). whole ++ l) (drop-length out₀) ∙ append-nil whole
