-- A list of calls on the roll, one call more at a time, and the answer to a grant that was kept meanwhile.
use mathlib.Core.Path.{◌≡◌, refl, sym, ap, ◌∙◌, subst⁻¹}
use mathlib.Core.List.{List, [], ◌∷◌, ◌++◌}
use Prim.Native.Nat.{ℕ, ◌+◌, ◌≤◌, ◌<◌}
use native.Mathlib.Omega.{arith}
use native.Mathlib.Numerals.{add-one}
use lib.ListN.{length, get_or, take}
use lib.Seq.{take-suc, take_all}
use Rattle.refusal.specs.Tries.{Try}
use Rattle.refusal.proofs.Answers.{answer-refused, answer-done}
use Rattle.basics.specs.Bytes.{AreBytes}
use Rattle.check_call.specs.CheckCall.{call_code}
use Rattle.issue_call.specs.IssueCall.{issue_call_tries, issue_call_number, issue_call_output}
use Rattle.call_claims.specs.CallHistories.{called, bytes_after, CallIssued, grant_given}
use Rattle.call_claims.specs.Claims.{CallsRevoke}
use Rattle.call_claims.proofs.Claims.{calls_revoke}
use Rattle.kept_grants.specs.Kept.{change_from, changes_from, Revoked, kept_code, kept_roll}

-- ---- the calls, one after the other
after_more : (ns : List ℕ) (n : ℕ) (roll : List ℕ)
    → bytes_after (changes_from (ns ++ (n ∷ []))) roll ≡ called (change_from n) (bytes_after (changes_from ns) roll)
unfolding bytes_after changes_from
after_more [] n roll = refl
after_more (x ∷ ns) n roll = after_more ns n (called (change_from x) roll)

-- the roll after the first i calls
unfoldable pub after_to : List ℕ → ℕ → List ℕ → List ℕ
after_to calls i roll = bytes_after (changes_from (take i calls)) roll

pub after_next : (calls : List ℕ) (i : ℕ) → i < length calls → (roll here next : List ℕ) → here ≡ after_to calls i roll
    → next ≡ called (change_from (get_or calls i 0)) here → next ≡ after_to calls (i + 1) roll
unfolding after_to
after_next calls i h roll here next en ex =
    ex ∙ ap (called (change_from (get_or calls i 0))) en ∙ sym (after_more (take i calls) (get_or calls i 0) roll)
    ∙ ap (λ (l : List ℕ). bytes_after (changes_from l) roll) (sym (take-suc calls i 0 h))
    ∙ ap (λ (m : ℕ). bytes_after (changes_from (take m calls)) roll) (sym (add-one i))

pub after_all : (calls : List ℕ) (i : ℕ) → i ≡ length calls → (roll : List ℕ) → after_to calls i roll ≡ bytes_after (changes_from calls) roll
unfolding after_to
after_all calls i e roll = ap (λ (l : List ℕ). bytes_after (changes_from l) roll) (take_all i calls (omega (arith, e)))

-- ---- the answer to a grant that was kept
module _ (key : List ℕ) (rounds : ℕ) (roll : List ℕ) (contractor block right : ℕ) (calls : List ℕ) (asked-block asked-right : ℕ) (out : List ℕ) where
  -- what the function promises of its answer and of the roll
  abbrev pub Kept : ℕ → List ℕ → Type 0
  Kept code after =
      Revoked key rounds roll contractor block right calls out code
      × ((code ≡ kept_code key rounds roll contractor block right calls asked-block asked-right out)
      × (after ≡ kept_roll key rounds roll contractor block right calls out))

  ts : List Try
  ts = issue_call_tries key rounds roll contractor block right out

  given : ℕ
  given = call_code key rounds (bytes_after (changes_from calls) roll) (grant_given key rounds roll contractor block right out) asked-block asked-right

  pub kept_refused : (n : ℕ) → n ≡ issue_call_number key rounds roll contractor block right out → (n ≡ 0 → ⊥) → Kept n roll
  unfolding kept_code kept_roll ts given
  kept_refused n e d =
      let p : 0 < n = omega (arith, d) in (
        record { refused = λ z w. absurd (d (e ∙ z)) },
        (
          e ∙ answer-refused ts n given (issue_call_number key rounds roll contractor block right out) p (sym e),
          answer-refused ts n (bytes_after (changes_from calls) roll) roll p (sym e),
        ),
      )

  pub kept_checked : issue_call_number key rounds roll contractor block right out ≡ 0 → AreBytes key → AreBytes roll → block < 4294967296
      → (w : List ℕ) → w ≡ issue_call_output key rounds roll contractor block right out
      → (after : List ℕ) → after ≡ bytes_after (changes_from calls) roll
      → (code : ℕ) → code ≡ call_code key rounds after (take 12 w) asked-block asked-right → Kept code after
  unfolding kept_code kept_roll ts given CallsRevoke
  kept_checked e hk hr few w ew after ea code ec =
      let i : CallIssued key rounds roll contractor block right out = record { key-bytes = hk; roll_has_bytes = hr; block_small = few; number = e } in
      let g : code ≡ given = ec ∙ (λ j. call_code key rounds (ea j) (take 12 (ew j)) asked-block asked-right) in (
        record {
          refused = λ z h.
              subst⁻¹ (λ (n : ℕ). (1 ≤ n) × (n ≤ 999)) g
              (calls_revoke key rounds roll contractor block right out i (changes_from calls) h asked-block asked-right);
        },
        (
          g ∙ answer-done ts given (issue_call_number key rounds roll contractor block right out) e,
          ea ∙ answer-done ts (bytes_after (changes_from calls) roll) roll e,
        ),
      )
