-- C calls on any lent bytes: refused, they leave every byte.
use mathlib.Core.Path.{◌≡◌, refl, sym, ap, ◌∙◌}
use mathlib.Core.Bool.{false}
use mathlib.Core.List.{List, []}
use Prim.Native.Nat.{ℕ, zero, suc, ◌<◌}
use native.Mathlib.Omega.{arith}
use lib.ListN.{length}
use Rattle.refusal.specs.Tries.{written, answered}
use Rattle.refusal.proofs.Tries.{first_holds}
use Rattle.refusal.proofs.Answers.{kept, put_all}
use Rattle.holder.specs.declared.Holder.{Holder}
use Rattle.holder.specs.declared.Way.{Way}
use Rattle.holder.specs.declared.Way.TheVariants.{Forward, Back}
use Rattle.holder.specs.Holder.{whole}
use Rattle.holder_from_key.specs.FromKey.{made_holder}
use Rattle.holder_steps.specs.Steps.{holder_number, step_holder, subkey_held}
use Rattle.holder_walk.specs.Walk.{walk_number, walk_holder, walk_steps, walk_way}
use Rattle.holder_bytes.specs.HolderBytes.{holder_length, holder_of, holder_bytes}
use Rattle.holder_bytes.proofs.Lent.{length-bytes, read_other, blank_broken}
use Rattle.holder_calls.specs.HolderCalls.{make_call_output, step_call_holder}
use Rattle.holder_walk_call.specs.WalkCall.{walk_code, walk_call_code, walk_call_holder}
use Rattle.holder_subkey_call.specs.SubkeyCall.{held_subkey_output}
use Rattle.holder_call_claims.specs.HolderRoutes.{HolderCall, make, forward, back, walk, subkey, leaves}
use Rattle.holder_call_claims.specs.Claims.{LentRefused, output_lent}

-- a holder written over a holder's bytes, or left there
pub left_by_lem : (n : ℕ) (x y : Holder) → length x.bytes ≡ 24 → length y.bytes ≡ 24 → (0 < n → x ≡ y)
    → written n (holder_bytes y) (holder_bytes x) ≡ holder_bytes y
left_by_lem zero x y lx ly k = sym (put_all 0 (holder_bytes y) (holder_bytes x) refl (omega (arith, length-bytes x lx, length-bytes y ly)))
left_by_lem (suc n) x y lx ly k = sym (kept (suc n) (holder_bytes y) (holder_bytes x) (omega arith)) ∙ ap holder_bytes (k (omega arith))

-- ---- broken bytes
pub broken_lent : (lent : List ℕ) → whole (holder_of lent) ≡ false → LentRefused lent
unfolding step_call_holder walk_call_code walk_call_holder held_subkey_output answered
broken_lent lent e =
    let h = holder_of lent in
    let s : holder_number h ≡ 24 = first_holds _ [] e in
    let w : (d : ℕ) → walk_number h d ≡ 24 = λ d. first_holds _ _ e in
    record {
      steps = λ way. (
        s,
        ap (λ (n : ℕ). written n (holder_bytes (step_holder way h)) lent) s ∙ sym (kept 24 (holder_bytes (step_holder way h)) lent (omega arith)),
      );
      walks = λ d. (
        ap (λ (n : ℕ). walk_code n (walk_steps h d) (walk_way h d)) (w d),
        ap (λ (n : ℕ). written n (holder_bytes (walk_holder h d)) lent) (w d) ∙ sym (kept 24 (holder_bytes (walk_holder h d)) lent (omega arith)),
      );
      subkeys = λ out. (
        first_holds _ _ e,
        ap (λ (n : ℕ). written n (subkey_held h) out) (first_holds _ _ e) ∙ sym (kept 24 (subkey_held h) out (omega arith)),
      );
    }

pub other_length : (lent : List ℕ) → (length lent ≡ holder_length → ⊥) → LentRefused lent
other_length lent n = broken_lent lent (ap whole (read_other lent n) ∙ blank_broken)

-- ---- refused calls
-- a walk's number below 1,000 is a reason's
code-reason : (n steps : ℕ) (way : Way) → walk_code n steps way < 1000 → 0 < n
unfolding answered
code-reason zero steps Forward h = let z : ⊥ = omega (arith, h) in absurd z
code-reason zero steps Back h = let z : ⊥ = omega (arith, h) in absurd z
code-reason (suc n) steps way h = omega arith

pub refused_keeps : (c : HolderCall) (lent : List ℕ) → 0 < (leaves c lent).number → (leaves c lent).number < 1000
    → ((leaves c lent).holder ≡ lent) × ((leaves c lent).output ≡ output_lent c)
unfolding leaves make_call_output step_call_holder walk_call_code walk_call_holder held_subkey_output
refused_keeps (make key) lent p q = (sym (kept _ (holder_bytes (made_holder key)) lent p), refl)
refused_keeps forward lent p q = (sym (kept _ (holder_bytes (step_holder Forward (holder_of lent))) lent p), refl)
refused_keeps back lent p q = (sym (kept _ (holder_bytes (step_holder Back (holder_of lent))) lent p), refl)
refused_keeps (walk d) lent p q =
    let h = holder_of lent in
    (sym (kept _ (holder_bytes (walk_holder h d)) lent (code-reason (walk_number h d) (walk_steps h d) (walk_way h d) q)), refl)
refused_keeps (subkey out) lent p q = (refl, sym (kept _ (subkey_held (holder_of lent)) out p))
