-- From what the calls' contracts say to what the functions of this crate promise.
use mathlib.Core.Path.{◌≡◌, refl, sym, ap, ◌∙◌, subst}
use mathlib.Core.Bool.{Bool, true, false}
use mathlib.Core.List.{List, [], ◌∷◌}
use Prim.Native.Nat.{ℕ, ◌≤◌, ◌<◌}
use native.Mathlib.Omega.{arith}
use lib.Dec.{lit<}
use lib.ListN.{length, take}
use lib.Seq.{length-take-le}
use Rattle.refusal.specs.declared.Reason.{Reason}
use Rattle.refusal.specs.Reasons.{reason_number}
use Rattle.refusal.specs.Tries.{◌unless◌, first, written}
use Rattle.refusal.proofs.Reasons.{reason_positive}
use Rattle.refusal.proofs.Tries.{first_passes, first_holds, none-given, first-before, first_then}
use Rattle.refusal.proofs.Ladder.{all_pass}
use Rattle.refusal.proofs.Answers.{starts, answer-refused, answer-done}
use Rattle.basics.specs.Bytes.{AreBytes}
use Rattle.cipher.specs.Cipher.{cipher_block}
use Rattle.roll.specs.declared.Roll.{Roll}
use Rattle.std.specs.Prelude.{Ok, Err}
use Rattle.rights.specs.Rights.{is_right, covers}
use Rattle.grant.specs.Grants.{Verdict, contractor_in, verdict_number, verdict_contractor, verdict_right}
use Rattle.judging.proofs.Verdicts.{Tells, verdict_refused, verdict_passed}
use Rattle.issuing.specs.Issuing.{issue_tries, issue_number, issued_grant, issue_output}
use Rattle.checking.specs.Checking.{opened_grant, check_tries, check_number, check_contractor, check_right}
use Rattle.revocation.specs.Claims.{OpensExactlyWhen, Issued, IssuedOpens}
use Rattle.revocation.proofs.Issued.{issued-covered, issued_not_covered}
use Rattle.revocation.proofs.Claims.{opens_exactly_when, issued-opens}
use Rattle.verdicts.specs.Decisions.{OpensFor, Decides, covered_tries, issued_tries}

-- a verdict by its three numbers
opens_for : (v : Verdict) (c r : ℕ) → verdict_number v ≡ 0 → verdict_contractor v ≡ c → verdict_right v ≡ r → OpensFor v c r
opens_for (Ok g) c r n ec er = record { grant = g; is = refl; names-contractor = ec; names-right = er }
opens_for (Err x) c r n ec er = let z : ⊥ = omega (arith, reason_positive x, n) in absurd z

module _ (key : List ℕ) (hk : AreBytes key) (rounds : ℕ) (grant : List ℕ) (hg : AreBytes grant) (block : ℕ) (few : block < 4294967296)
    (right : ℕ) where
  pub decided : (roll : Roll) (v : Verdict) → (verdict_number v ≡ check_number key rounds roll grant block right)
      × ((verdict_contractor v ≡ check_contractor key rounds roll grant block right) × (verdict_right v ≡ check_right key rounds roll grant block right))
      → Decides key rounds roll grant block right v
  unfolding OpensExactlyWhen
  decided roll v e =
      let w = opens_exactly_when key hk rounds roll grant hg block few right in
      record {
        opens_if = λ o. let a = w.1 o in opens_for v _ right (e.0 ∙ a.number) (e.1.0 ∙ a.answers-contractor) (e.1.1 ∙ a.answers-right);
        opens_only_if = λ g o. w.0 (sym e.0 ∙ ap verdict_number o);
      }

-- ---- an output that twelve bytes were written to
pub began : (n : ℕ) (g out w : List ℕ) → length g ≡ 12 → n ≡ 0 → w ≡ written n g out → (12 ≤ length w) × (take 12 w ≡ g)
began n g out w l e ew =
    let s = starts n g out e in
    (omega (arith, l, s.0, ap length ew), ap (λ (m : ℕ). take m w) (sym l) ∙ ap (take (length g)) ew ∙ s.1)

-- w is told by what it was shown to be
pub twelve-taken : {w x : List ℕ} → w ≡ x → 12 ≤ length w → 12 ≡ length (take 12 w)
twelve-taken {w} e h = sym (length-take-le 12 w h)

pub twelve : (key : List ℕ) (rounds : ℕ) (roll : Roll) (c b r : ℕ) → length (issued_grant key rounds roll c b r) ≡ 12
unfolding issued_grant cipher_block
twelve key rounds roll c b r = refl

-- ---- what was issued
-- the check of what was issued, by its numbers: what is left to try is the right that is asked for
module _ (key : List ℕ) (rounds : ℕ) (roll : Roll) (contractor block right asked : ℕ) (out : List ℕ)
    (i : Issued key rounds roll contractor block right out) where
  g : List ℕ
  g = issued_grant key rounds roll contractor block right

  abbrev pub TellsChecked : Type 0
  TellsChecked =
      Tells (covered_tries right asked) contractor asked (check_number key rounds roll (issued_grant key rounds roll contractor block right) block asked)
      (check_contractor key rounds roll (issued_grant key rounds roll contractor block right) block asked)
      (check_right key rounds roll (issued_grant key rounds roll contractor block right) block asked)

  with_number : (n : ℕ) → 0 < n → check_number key rounds roll (issued_grant key rounds roll contractor block right) block asked ≡ n
      → first (covered_tries right asked) ≡ n → TellsChecked
  unfolding g check_contractor check_right
  with_number n h e z =
      let ts = check_tries key rounds roll g block asked in
      let cs = covered_tries right asked in (
        e ∙ sym z,
        (
          sym (answer-refused ts n (contractor_in (opened_grant key rounds g)) 0 h e) ∙ answer-refused cs n contractor 0 h z,
          sym (answer-refused ts n asked 0 h e) ∙ answer-refused cs n asked 0 h z,
        ),
      )

  pub asked_of_issued : TellsChecked
  unfolding IssuedOpens
  asked_of_issued = by (is_right asked) (covers right asked) refl refl
    where
      by : (q c : Bool) → is_right asked ≡ q → covers right asked ≡ c → TellsChecked
      by false c eq ec =
          with_number 7 (lit< tt) ((issued-opens key rounds roll contractor block right out i).no_right asked eq)
          (first_holds (7 unless is_right asked) ((10 unless covers right asked) ∷ []) eq)
      by true false eq ec =
          with_number 10 (lit< tt) (issued_not_covered key rounds roll contractor block right out i asked eq ec)
          (first_passes (7 unless is_right asked) ((10 unless covers right asked) ∷ []) eq ∙ first_holds (10 unless covers right asked) [] ec)
      by true true eq ec =
          let a = issued-covered key rounds roll contractor block right out i asked ec in
          let cs = covered_tries right asked in
          let z = none-given cs (eq, (ec, tt)) in
          (a.number ∙ sym z, (a.answers-contractor ∙ answer-done cs contractor 0 z, a.answers-right ∙ answer-done cs asked 0 z))

module _ (key : List ℕ) (rounds : ℕ) (roll : Roll) (contractor block right : ℕ) (out : List ℕ) where
  -- an output that was written starts with the grant
  module _ (e : issue_number key rounds roll contractor block right out ≡ 0) (w : List ℕ)
      (ew : w ≡ issue_output key rounds roll contractor block right out) where
    begins : (12 ≤ length w) × (take 12 w ≡ issued_grant key rounds roll contractor block right)
    unfolding issue_output
    begins =
        let g = issued_grant key rounds roll contractor block right in
        began (issue_number key rounds roll contractor block right out) g out w (twelve key rounds roll contractor block right) e ew

    pub room : 12 ≤ length w
    room = begins.0

    first-twelve : take 12 w ≡ issued_grant key rounds roll contractor block right
    first-twelve = begins.1

  module _ (asked : ℕ) where
    -- a verdict by its numbers: the refusal of the issue or of the check, or the grant's contractor and the right asked for
    abbrev pub Answers : Verdict → Type 0
    Answers v =
        Tells (issued_tries key rounds roll contractor block right asked out) contractor asked (verdict_number v) (verdict_contractor v) (verdict_right v)

    -- where the issue refused
    pub refused-first : (v : Verdict) (why : Reason) → v ≡ Err why → reason_number why ≡ issue_number key rounds roll contractor block right out → Answers v
    refused-first v why ev e =
        let ts = issued_tries key rounds roll contractor block right asked out in
        let before = first-before (issue_tries key rounds roll contractor block right out) (covered_tries right asked) (reason_number why)
        (reason_positive why) (sym e) in
        subst Answers (sym ev) (verdict_refused ts contractor asked (reason_number why) (reason_positive why) before)

    -- where it did not, and the check was asked
    pub then_checked : AreBytes key → block < 4294967296 → issue_number key rounds roll contractor block right out ≡ 0
        → (w : List ℕ) → w ≡ issue_output key rounds roll contractor block right out
        → (v : Verdict) → (verdict_number v ≡ check_number key rounds roll (take 12 w) block asked)
        × ((verdict_contractor v ≡ check_contractor key rounds roll (take 12 w) block asked)
        × (verdict_right v ≡ check_right key rounds roll (take 12 w) block asked)) → Answers v
    then_checked hk few e w ew v h =
        let ts = issue_tries key rounds roll contractor block right out in
        let c = asked_of_issued key rounds roll contractor block right asked out record { key-bytes = hk; block_small = few; number = e } in
        let eg = first-twelve e w ew in
        verdict_passed (issued_tries key rounds roll contractor block right asked out) contractor asked (covered_tries right asked) _ _ _
        (first_then ts (covered_tries right asked) (all_pass ts refl e)) (
          h.0 ∙ ap (λ (g : List ℕ). check_number key rounds roll g block asked) eg ∙ c.0,
          (
            h.1.0 ∙ ap (λ (g : List ℕ). check_contractor key rounds roll g block asked) eg ∙ c.1.0,
            h.1.1 ∙ ap (λ (g : List ℕ). check_right key rounds roll g block asked) eg ∙ c.1.1,
          ),
        )
