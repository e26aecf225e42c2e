-- A grant that is kept while the roll changes: demand 2 and revocation of running code, with no side condition. The contract of the function that
-- issues a grant, makes a list of C calls on the roll and checks the grant says it for all that can be handed in.
use Rattle.std.specs.Prelude.{cond, ◌≡◌, List, [], ◌∷◌, ℕ, ◌/◌, ◌%◌, ◌≤◌, eqb}
use Rattle.refusal.specs.Tries.{answered}
use Rattle.histories.specs.Histories.{Change, enter, change, withdraw}
use Rattle.check_call.specs.CheckCall.{call_code}
use Rattle.issue_call.specs.IssueCall.{issue_call_number}
use Rattle.call_claims.specs.CallHistories.{bytes_after, CallWithdrawn, grant_given}

-- a number as a call on the roll: 12c + 3r enters contractor c with right r, one more changes their right to r, and two more withdraws them. So r is 0
-- to 3, the two rights and two that are none
unfoldable pub change_from : ℕ → Change
change_from n =
    cond (eqb (n % 3) 0) (enter (n / 12) (n / 3 % 4)) (cond (eqb (n % 3) 1) (change (n / 12) (n / 3 % 4)) (withdraw (n / 12)))

unfoldable pub changes_from : List ℕ → List Change
changes_from [] = []
changes_from (n ∷ ns) = change_from n ∷ changes_from ns

-- gordzila_issue answered 0, and among the calls made on the roll since then is a gordzila_withdraw of its contractor that answered 0: then the
-- answer to whatever is asked of the grant is a refusal, a number from 1 to 999
pub record Revoked (key : List ℕ) (rounds : ℕ) (roll : List ℕ) (contractor block right : ℕ) (calls out : List ℕ) (code : ℕ) : Type 0 where
  pub refused : issue_call_number key rounds roll contractor block right out ≡ 0 → CallWithdrawn contractor (changes_from calls) roll
      → (1 ≤ code) × (code ≤ 999)

-- the answer itself: the number of the refusal to issue, or what gordzila_check says of the grant on the roll that the calls left
unfoldable pub kept_code : List ℕ → ℕ → List ℕ → ℕ → ℕ → ℕ → List ℕ → ℕ → ℕ → List ℕ → ℕ
kept_code key rounds roll contractor block right calls asked-block asked-right out =
    answered (issue_call_number key rounds roll contractor block right out)
    (call_code key rounds (bytes_after (changes_from calls) roll) (grant_given key rounds roll contractor block right out) asked-block asked-right)
    (issue_call_number key rounds roll contractor block right out)

-- and the roll: as it was where the issue was refused, else as the calls left it
unfoldable pub kept_roll : List ℕ → ℕ → List ℕ → ℕ → ℕ → ℕ → List ℕ → List ℕ → List ℕ
kept_roll key rounds roll contractor block right calls out =
    answered (issue_call_number key rounds roll contractor block right out) (bytes_after (changes_from calls) roll) roll
