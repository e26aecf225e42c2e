-- Checks of other contractors' grants, and verdicts by their numbers.
use mathlib.Core.Path.{◌≡◌, ap}
use mathlib.Core.List.{List, ◌++◌}
use Prim.Native.Nat.{ℕ}
use native.Mathlib.Omega.{arith}
use lib.Dec.{eqb}
use lib.ListN.{length}
use Rattle.refusal.specs.Claims.{NumbersTellReasons}
use Rattle.refusal.proofs.Claims.{numbers_tell_reasons}
use Rattle.refusal.proofs.Reasons.{reason_positive}
use Rattle.refusal.specs.Tries.{first, answered}
use Rattle.roll.specs.declared.Roll.{Roll}
use Rattle.roll.specs.declared.Entry.{Entry}
use Rattle.roll.specs.Roll.{entry_of}
use Rattle.histories.specs.Histories.{Change, roll_after, Spares}
use Rattle.histories.proofs.Calls.{after_other}
use Rattle.std.specs.Prelude.{Ok, Err}
use Rattle.grant.specs.Grants.{Verdict, contractor_in, verdict_number, verdict_contractor, verdict_right}
use Rattle.rights.proofs.Rights.{right_tells}
use Rattle.judging.specs.Judging.{input_tries, plain_tries}
use Rattle.checking.specs.Checking.{opened_grant, check_number, check_contractor, check_right}
use Rattle.revocation.specs.Claims.{SameCheck}

-- ---- two rolls
module _ (key : List ℕ) (rounds : ℕ) (roll other : Roll) (grant : List ℕ) (block asked : ℕ) where
  -- a check that gives the same number answers the same
  pub same-answers : check_number key rounds other grant block asked ≡ check_number key rounds roll grant block asked
      → SameCheck key rounds roll other grant block asked
  unfolding check_contractor check_right
  same-answers e = record {
    number = e;
    answers-contractor = ap (λ (m : ℕ). answered m (contractor_in (opened_grant key rounds grant)) 0) e;
    answers-right = ap (λ (m : ℕ). answered m asked 0) e;
  }

  -- on rolls that have the same entry for the grant's contractor
  pub same-entry : entry_of other (contractor_in (opened_grant key rounds grant)) ≡ entry_of roll (contractor_in (opened_grant key rounds grant))
      → SameCheck key rounds roll other grant block asked
  same-entry e =
      same-answers (ap (λ (m : Entry). first (input_tries (length key) rounds (eqb (length grant) 12) block asked
      ++ plain_tries (opened_grant key rounds grant) m block asked)) e)

-- so of a grant after calls for others
pub same_check : (key : List ℕ) (rounds : ℕ) (roll : Roll) (grant : List ℕ) (block asked : ℕ) (hs : List Change)
    → Spares (contractor_in (opened_grant key rounds grant)) hs → SameCheck key rounds roll (roll_after hs roll) grant block asked
same_check key rounds roll grant block asked hs s =
    same-entry key rounds roll (roll_after hs roll) grant block asked (after_other hs roll (contractor_in (opened_grant key rounds grant)) s)

-- ---- verdicts
pub verdicts_told : (v w : Verdict)
    → verdict_number v ≡ verdict_number w → verdict_contractor v ≡ verdict_contractor w → verdict_right v ≡ verdict_right w → v ≡ w
unfolding NumbersTellReasons
verdicts_told (Ok g) (Ok h) n c r = λ i. Ok record { contractor = c i; right = right_tells g.right h.right r i }
verdicts_told (Ok g) (Err s) n c r = let z : ⊥ = omega (arith, n, reason_positive s) in absurd z
verdicts_told (Err s) (Ok g) n c r = let z : ⊥ = omega (arith, n, reason_positive s) in absurd z
verdicts_told (Err s) (Err u) n c r = ap Err (numbers_tell_reasons s u n)
