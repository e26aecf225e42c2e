-- What stands after s stages of a key where its list is filled, from the front or from the back, and what one more stage makes of it.
use mathlib.Core.Path.{◌≡◌, refl, ap, ◌∙◌}
use mathlib.Core.Bool.{Bool, true, cond, ◌&&◌}
use mathlib.Core.List.{List, ◌++◌}
use Prim.Native.Nat.{ℕ, ◌+◌, ◌-◌, ◌*◌, ◌≤◌, ◌<◌}
use native.Mathlib.Omega.{arith}
use lib.Dec.{ltb}
use lib.ListN.{length, drop}
use borrow.Author.Tests.{lt-ltb}
use Rattle.layers.specs.State.{State}
use Rattle.layers.specs.Layers.{diffused}
use Rattle.block_bytes.specs.Blocks.{bytes_of, list_bytes}
use Rattle.block_bytes.proofs.Put.{overlaid}
use Rattle.sizes.specs.Sizes.{t_of}
use Rattle.sizes.proofs.Keys.{a_key}
use Rattle.stages.specs.Columns.{padded}
use Rattle.stages.specs.Stages.{stage, stage_after, subkey_of}
use Rattle.stages.proofs.Keys.{advanced}
use Rattle.key_lists.specs.declared.Direction.{Direction}
use Rattle.key_lists.specs.declared.Direction.TheVariants.{Enciphering, Deciphering}
use Rattle.key_lists.specs.KeyLists.{subkey, list_for}
use Rattle.key_lists.specs.ForProver.{Fits}
use Rattle.filling.proofs.Keys.{selected}
use Rattle.filling.proofs.Filled.{front, front_first, front_next}
use Rattle.filling.proofs.Turned.{back, back-first, back-next, back_whole}

-- what some bytes are with subkeys 0 to s in their places
pub done : Direction → List ℕ → ℕ → ℕ → List ℕ → List ℕ
done Enciphering key R s out = front key s out
done Deciphering key R s out = back key R s out

-- what subkey s, put in its place, makes of some bytes
abbrev pub Front : Direction → ℕ → State → List ℕ → List ℕ → Type 0
Front d s k before after = d ≡ Enciphering → after ≡ overlaid (12 * s) (bytes_of k) before

abbrev pub Back : Direction → ℕ → ℕ → State → List ℕ → List ℕ → Type 0
Back d R s k before after = d ≡ Deciphering → after ≡ overlaid (12 * (R - s)) (bytes_of (cond (ltb 0 s && ltb s R) (diffused k) k)) before

pub first_put : (d : Direction) (key : List ℕ) (R : ℕ) (before after : List ℕ) (k : State) → k ≡ subkey key 0
    → Front d 0 k before after → Back d R 0 k before after → after ≡ done d key R 0 before
unfolding done
first_put Enciphering key R before after k e p q = p refl ∙ front_first key before k e
first_put Deciphering key R before after k e p q =
    let z : R - 0 ≡ R = omega arith in q refl ∙ ap (λ (m : ℕ). overlaid (12 * m) (bytes_of k) before) z ∙ back-first key R before k e

pub next_put : (d : Direction) (key : List ℕ) (R s : ℕ) (out₀ before after : List ℕ) (k : State) → s < R → 12 * (R + 1) ≤ length out₀
    → k ≡ subkey key (s + 1) → before ≡ done d key R s out₀
    → Front d (s + 1) k before after → Back d R (s + 1) k before after → after ≡ done d key R (s + 1) out₀
unfolding done
next_put Enciphering key R s out₀ before after k h room e i p q = p refl ∙ front_next key out₀ before s k e i
next_put Deciphering key R s out₀ before after k h room e i p q =
    let r = λ (b : Bool) (x : State). cond (b && ltb (s + 1) R) (diffused x) x in
    q refl ∙ back-next key R s out₀ before _ h room (ap (λ (b : Bool). r b k) (lt-ltb 0 (s + 1) (omega arith)) ∙ ap (r true) e) i

pub all_put : (d : Direction) (key : List ℕ) (R s : ℕ) (out₀ out : List ℕ) → s ≡ R → out ≡ done d key R s out₀
    → out ≡ list_bytes (list_for d key R) ++ drop (12 * (R + 1)) out₀
unfolding done front list_for
all_put Enciphering key R s out₀ out e i = i ∙ ap (λ (m : ℕ). front key m out₀) e
all_put Deciphering key R s out₀ out e i = i ∙ ap (λ (m : ℕ). back key R m out₀) e ∙ back_whole key R out₀

pub record Filling (d : Direction) (key : List ℕ) (R : ℕ) (out₀ out k : List ℕ) (s : ℕ) : Type 0 where
  pub same : length out ≡ length out₀
  pub held : k ≡ padded (stage (t_of (length key)) key s)
  pub is : out ≡ done d key R s out₀

module _ {d : Direction} {key : List ℕ} {R room : ℕ} (f : Fits (length key) R room) where
  pub begins : (out₀ out k : List ℕ) → length out ≡ length out₀ → k ≡ padded key
      → Front d 0 (subkey_of k) out₀ out → Back d R 0 (subkey_of k) out₀ out → Filling d key R out₀ out k 0
  unfolding stage
  begins out₀ out k l e p q =
      record { same = l; held = e; is = first_put d key R out₀ out (subkey_of k) (selected key f.key 0 k (subkey_of k) e refl) p q }

  -- one turn of the code: the next stage, and its subkey put in its place
  pub goes_on : {out₀ out k : List ℕ} {s : ℕ} → Filling d key R out₀ out k s → s < R → 12 * (R + 1) ≤ length out₀
      → (next after : List ℕ) → let t = t_of (length key) in next ≡ stage_after t (s + 1) k ++ drop (6 * t) k → length after ≡ length out
      → Front d (s + 1) (subkey_of next) out after → Back d R (s + 1) (subkey_of next) out after → Filling d key R out₀ after next (s + 1)
  goes_on {out₀} {out} {k} {s} i h r next after en l p q =
      let e = advanced key f.key s k next (omega (arith, (a_key (length key) f.key).is, f.most)) i.held en in
      record {
        same = l ∙ i.same;
        held = e;
        is = next_put d key R s out₀ out after (subkey_of next) h r (selected key f.key (s + 1) next (subkey_of next) e refl) i.is p q;
      }
