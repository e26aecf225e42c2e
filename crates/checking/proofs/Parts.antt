-- A check in two parts: where the input is refused, its number is the check's; and where it isn't, the verdict on the plain bytes is the check's.
use mathlib.Core.Path.{◌≡◌, refl, sym, ap, ap₂, ◌∙◌, subst}
use mathlib.Core.Bool.{Bool, ◌&&◌}
use mathlib.Core.List.{List}
use Prim.Native.Nat.{ℕ}
use lib.Dec.{eqb}
use lib.ListN.{length}
use Rattle.std.specs.Prelude.{Err}
use Rattle.refusal.specs.declared.Reason.{Reason}
use Rattle.refusal.specs.Reasons.{reason_number}
use Rattle.refusal.proofs.Reasons.{reason_positive}
use Rattle.refusal.specs.Tries.{Try, first}
use Rattle.refusal.proofs.Tries.{first-before, first_then}
use Rattle.refusal.proofs.Ladder.{all_pass}
use Rattle.roll.specs.declared.Roll.{Roll}
use Rattle.roll.specs.declared.Entry.{Entry}
use Rattle.roll.specs.Roll.{entry_of}
use Rattle.grant.specs.Grants.{Verdict, verdict_number, verdict_contractor, verdict_right, contractor_in}
use Rattle.judging.specs.Judging.{input_tries, plain_tries, judged_number, judged_contractor, judged_right}
use Rattle.checking.specs.Checking.{opened_grant, entry_now, check_tries_on}
use Rattle.judging.proofs.Verdicts.{Tells, verdict_refused, verdict_passed}

module _ (whole : Bool) (key : List ℕ) (rounds : ℕ) (roll : Roll) (grant : List ℕ) (block right : ℕ) where
  abbrev input : List Try
  input = input_tries (length key) rounds (whole && eqb (length grant) 12) block right

  abbrev plain : List Try
  plain = plain_tries (opened_grant key rounds grant) (entry_now key rounds roll grant) block right

  abbrev pub Checked : ℕ → ℕ → ℕ → Type 0
  Checked = Tells (check_tries_on whole key rounds roll grant block right) (contractor_in (opened_grant key rounds grant)) right

  pub refused : (v : Verdict) (why : Reason) → v ≡ Err why → reason_number why ≡ first input
      → Checked (verdict_number v) (verdict_contractor v) (verdict_right v)
  refused v why ev e =
      let n = reason_number why in
      let ts = check_tries_on whole key rounds roll grant block right in
      let told = verdict_refused ts (contractor_in (opened_grant key rounds grant)) right n (reason_positive why)
      (first-before input plain n (reason_positive why) (sym e)) in
      subst (λ (w : Verdict). Checked (verdict_number w) (verdict_contractor w) (verdict_right w)) (sym ev) told

  pub judged : 0 ≡ first input → (p : List ℕ) → p ≡ opened_grant key rounds grant → (named : ℕ) → named ≡ contractor_in p
      → (entry : Entry) → entry ≡ entry_of roll named → (n c r : ℕ) → n ≡ judged_number p entry block right
      → c ≡ judged_contractor p entry block right → r ≡ judged_right p entry block right → Checked n c r
  judged e p ep named em entry ee n c r en ec er =
      let x = ee ∙ ap (entry_of roll) (em ∙ ap contractor_in ep) in
      verdict_passed (check_tries_on whole key rounds roll grant block right) (contractor_in (opened_grant key rounds grant)) right plain n c r
      (first_then input plain (all_pass input refl (sym e))) (
        en ∙ ap₂ (λ (p : List ℕ) (x : Entry). judged_number p x block right) ep x,
        (
          ec ∙ ap₂ (λ (p : List ℕ) (x : Entry). judged_contractor p x block right) ep x,
          er ∙ ap₂ (λ (p : List ℕ) (x : Entry). judged_right p x block right) ep x,
        ),
      )
