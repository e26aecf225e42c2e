-- From what the C calls' contracts say to what the functions of this crate promise.
use mathlib.Core.Path.{◌≡◌, refl, sym, ap, ◌∙◌}
use mathlib.Core.List.{List}
use Prim.Native.Nat.{ℕ, ◌+◌, ◌*◌, ◌≤◌, ◌<◌}
use native.Mathlib.Omega.{arith}
use lib.ListN.{length, take}
use Rattle.refusal.specs.Tries.{first, answered}
use Rattle.refusal.proofs.Tries.{first-before, first_then}
use Rattle.refusal.proofs.Ladder.{all_pass}
use Rattle.refusal.proofs.Answers.{answer-refused}
use Rattle.basics.specs.Bytes.{AreBytes}
use Rattle.roll_bytes.specs.RollBytes.{roll_of}
use Rattle.issuing.specs.Issuing.{issued_grant}
use Rattle.check_call.specs.CheckCall.{call_code}
use Rattle.check_call.proofs.Codes.{told}
use Rattle.issue_call.specs.IssueCall.{issue_call_tries, issue_call_number, issue_call_output}
use Rattle.call_claims.specs.CallHistories.{CallIssued, grant_given}
use Rattle.call_claims.specs.Claims.{CallOpensExactlyWhen, CallNeverZero}
use Rattle.call_claims.proofs.Opens.{is-check}
use Rattle.call_claims.proofs.Claims.{call_opens_exactly_when, call_never_zero, long, issued, as_issued}
use Rattle.verdicts.specs.Decisions.{covered_tries}
use Rattle.verdicts.proofs.Laws.{began, twelve, asked_of_issued}
use Rattle.call_verdicts.specs.CallDecisions.{CallDecides, issued_call_tries, issued_code}

module _ (key : List ℕ) (hk : AreBytes key) (rounds : ℕ) (grant : List ℕ) (hg : AreBytes grant) (block : ℕ) (few : block < 4294967296)
    (right : ℕ) where
  pub call_decided : (roll : List ℕ) (code : ℕ) → code ≡ call_code key rounds roll grant block right
      → CallDecides key rounds roll grant block right code
  unfolding CallOpensExactlyWhen CallNeverZero
  call_decided roll code e =
      let w = call_opens_exactly_when key hk rounds roll grant hg block few right in
      record {
        opens_if = λ l o. e ∙ w.1 l o;
        opens_only_if = λ h. w.0 (omega (arith, h, e));
        never_zero = omega (arith, e, call_never_zero key rounds roll grant block right);
      }

-- ---- what was issued
module _ (key : List ℕ) (rounds : ℕ) (roll : List ℕ) (contractor block right asked : ℕ) (out : List ℕ) where
  pub call_refused_first : (n : ℕ) → n ≡ issue_call_number key rounds roll contractor block right out → (n ≡ 0 → ⊥)
      → n ≡ issued_code key rounds roll contractor block right asked out
  unfolding issued_code
  call_refused_first n e d =
      let h : 0 < n = omega (arith, d) in
      let ts = issued_call_tries key rounds roll contractor block right asked out in
      let z = first-before (issue_call_tries key rounds roll contractor block right out) (covered_tries right asked) n h (sym e) in
      sym z ∙ answer-refused ts n (1000 * asked + contractor) (first ts) h z

  -- the check of what was issued: what is left to try is the right that is asked for
  checked : (i : CallIssued key rounds roll contractor block right out)
      → call_code key rounds roll (grant_given key rounds roll contractor block right out) block asked
      ≡ issued_code key rounds roll contractor block right asked out
  unfolding issued_code
  checked i =
      let ts = issue_call_tries key rounds roll contractor block right out in
      let cs = covered_tries right asked in
      let g = issued_grant key rounds (roll_of roll) contractor block right in
      let t =
      asked_of_issued key rounds (roll_of roll) contractor block right asked out (issued key rounds roll contractor block right out i) in
      as_issued key rounds roll contractor block right out i block asked
      ∙ is-check key rounds roll g block asked (long key rounds roll contractor block right out i)
      ∙ told (first cs) asked contractor _ _ _ t.0 t.1.0 t.1.1
      ∙ ap (λ (n : ℕ). answered n (1000 * asked + contractor) n) (sym (first_then ts cs (all_pass ts refl i.number)))

  pub call_then_checked : issue_call_number key rounds roll contractor block right out ≡ 0
      → (w : List ℕ) → w ≡ issue_call_output key rounds roll contractor block right out
      → AreBytes key → AreBytes roll → block < 4294967296
      → (code : ℕ) → code ≡ call_code key rounds roll (take 12 w) block asked → code ≡ issued_code key rounds roll contractor block right asked out
  call_then_checked e w ew hk hr few code ec =
      ec ∙ ap (λ (w : List ℕ). call_code key rounds roll (take 12 w) block asked) ew
      ∙ checked record { key-bytes = hk; roll_has_bytes = hr; block_small = few; number = e }

-- room for the grant in an output that was written
pub call_room : (key : List ℕ) (rounds : ℕ) (roll : List ℕ) (contractor block right : ℕ) (out : List ℕ)
    → issue_call_number key rounds roll contractor block right out ≡ 0
    → (w : List ℕ) → w ≡ issue_call_output key rounds roll contractor block right out → 12 ≤ length w
unfolding issue_call_output
call_room key rounds roll contractor block right out e w ew =
    let g = issued_grant key rounds (roll_of roll) contractor block right in
    (began (issue_call_number key rounds roll contractor block right out) g out w (twelve key rounds (roll_of roll) contractor block right) e ew).0
