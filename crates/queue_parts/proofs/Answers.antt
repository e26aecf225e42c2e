-- A queue's answers as they are written, grant by grant.
use mathlib.Core.Path.{◌≡◌, refl, sym, ap, ◌∙◌}
use mathlib.Core.List.{List, [], ◌∷◌, ◌++◌, append_assoc}
use Prim.Native.Nat.{ℕ, suc, ◌+◌, ◌-◌, ◌*◌, ◌≤◌, ◌<◌}
use native.Mathlib.Nat.{zero-add}
use native.Mathlib.Omega.{arith}
use native.Mathlib.Numerals.{add-one}
use lib.ListN.{length, get_or, take, drop, set, length-drop, length-set}
use lib.Seq.{drop-cons, set_at, length-take-le}
use Rattle.rounds.specs.Rounds.{listed_from}
use Rattle.rounds.proofs.Turned.{length-listed}
use Rattle.block_bytes.proofs.RoundTrip.{listed_snoc}
use Rattle.queue_parts.specs.QueueParts.{grants_in, grant_at}

-- a grant of the queue as the code lends it, and its length
pub lent : (grants : List ℕ) (i : ℕ) → take (12 * i + 12 - 12 * i) (drop (12 * i) grants) ≡ grant_at grants i
lent grants i = let e : 12 * i + 12 - 12 * i ≡ 12 = omega arith in ap (λ (n : ℕ). take n (drop (12 * i) grants)) e

pub grant-length : (grants : List ℕ) (i : ℕ) → i < grants_in (length grants) → length (grant_at grants i) ≡ 12
grant-length grants i h = length-take-le 12 (drop (12 * i) grants) (omega (arith, length-drop (12 * i) grants))

-- one element more of a list that is written over another
put_next : (f : ℕ → ℕ) (i : ℕ) (out₀ out : List ℕ) → i < length out₀ → out ≡ listed_from 0 i f ++ drop i out₀
    → set out i (f i) ≡ listed_from 0 (i + 1) f ++ drop (i + 1) out₀
put_next f i out₀ out h e =
    let p = listed_from 0 i f in
    let r = drop (suc i) out₀ in
    ap (λ (l : List ℕ). set l i (f i)) (e ∙ ap (λ (l : List ℕ). p ++ l) (drop-cons out₀ i 0 h))
    ∙ set_at p (get_or out₀ i 0) r (f i) i (length-listed i f)
    ∙ sym (append_assoc p (f i ∷ []) r)
    ∙ ap (λ (l : List ℕ). l ++ r) (sym (listed_snoc 0 i f ∙ ap (λ (n : ℕ). p ++ (f n ∷ [])) (zero-add i)))
    ∙ ap (λ (n : ℕ). listed_from 0 n f ++ drop n out₀) (sym (add-one i))

-- after i grants: the number of each, and then what stood there
pub record Answering (number : List ℕ → ℕ) (grants out₀ out : List ℕ) (i : ℕ) : Type 0 where
  pub most : i ≤ grants_in (length grants)
  pub same : length out ≡ length out₀
  pub is : out ≡ listed_from 0 i (λ j. number (grant_at grants j)) ++ drop i out₀

module _ {number : List ℕ → ℕ} {grants out₀ : List ℕ} where
  pub begins : Answering number grants out₀ out₀ 0
  unfolding listed_from
  begins = record { most = omega arith; same = refl; is = refl }

  module _ {out : List ℕ} {i : ℕ} (a : Answering number grants out₀ out i) where
    pub goes_on : grants_in (length grants) ≤ length out₀ → i < grants_in (length grants) → (x : ℕ)
        → x ≡ number (take (12 * i + 12 - 12 * i) (drop (12 * i) grants)) → Answering number grants out₀ (set out i x) (i + 1)
    goes_on room h x e = record {
      most = omega arith;
      same = length-set out i x ∙ a.same;
      is = ap (set out i) (e ∙ ap number (lent grants i)) ∙ put_next (λ j. number (grant_at grants j)) i out₀ out (omega arith) a.is;
    }
