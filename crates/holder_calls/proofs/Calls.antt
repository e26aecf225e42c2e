-- What the C calls that make and step a lent holder have to show: where they do not refuse, they write a whole holder, and there is room for it.
use mathlib.Core.Path.{◌≡◌, refl, sym, ap, ◌∙◌}
use mathlib.Core.Bool.{true}
use mathlib.Core.List.{List}
use Prim.Native.Nat.{ℕ}
use native.Mathlib.Omega.{arith}
use lib.ListN.{length}
use Rattle.std.specs.Prelude.{Result, Ok}
use Rattle.std.specs.Result.{result_unwrap_or}
use Rattle.refusal.specs.declared.Reason.{Reason}
use Rattle.refusal.specs.Reasons.{outcome_number}
use Rattle.refusal.proofs.Answers.{answer-done}
use Rattle.refusal.proofs.Ladder.{all_pass}
use Rattle.sizes.proofs.Keys.{a_key}
use Rattle.holder.specs.declared.Holder.{Holder}
use Rattle.holder.specs.declared.Way.{Way}
use Rattle.holder.specs.Holder.{whole, holder_at, blank, stepped}
use Rattle.holder.proofs.Whole.{step_whole, whole-at}
use Rattle.holder_from_key.specs.FromKey.{make_tries, make_number, made_holder}
use Rattle.holder_steps.specs.Steps.{holder_tries, holder_number, step_holder}
use Rattle.holder_bytes.specs.HolderBytes.{holder_of}
use Rattle.holder_bytes.specs.ForProver.{Writable}
use Rattle.holder_bytes.proofs.Lent.{room}

-- ---- make
pub make_writes : (key : List ℕ) (x : Holder) → 0 ≡ make_number key → x ≡ made_holder key → whole x ≡ true
unfolding made_holder
make_writes key x e ex =
    let right = (all_pass (make_tries key) refl (sym e)).0 in
    let done = answer-done (make_tries key) (holder_at key 0) blank (sym e) in
    ap whole (ex ∙ sym done) ∙ whole-at key right 0 (omega (arith, (a_key (length key) right).sized.least))

-- ---- steps
pub step_writes : (lent : List ℕ) (h : Holder) → h ≡ holder_of lent → (way : Way) (r : Result Holder Reason) → outcome_number r ≡ holder_number h
    → result_unwrap_or r h ≡ step_holder way h → (x : Holder) → r ≡ Ok x → Writable x lent
unfolding step_holder
step_writes lent h eh way r er ev x ex =
    let e = sym er ∙ ap outcome_number ex in
    let w = (all_pass (holder_tries h) refl e).0 in
    let v = sym (ap (λ (a : Result Holder Reason). result_unwrap_or a h) ex) ∙ ev in
    (ap whole (v ∙ sym (answer-done (holder_tries h) (stepped way h) h e)) ∙ step_whole way h w, room lent (sym (ap whole eh) ∙ w))
