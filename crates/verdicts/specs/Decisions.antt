-- Demand 2 of the answers that calls gave, with no side condition: the contracts of this crate's functions, which only make the calls, say it
-- for every key, roll, grant and number that can be handed in.
use Rattle.std.specs.Prelude.{◌≡◌, Ok, List, [], ◌∷◌, ◌++◌, ℕ}
use Rattle.refusal.specs.Tries.{Try, ◌unless◌}
use Rattle.roll.specs.declared.Roll.{Roll}
use Rattle.grant.specs.declared.Grant.{Grant}
use Rattle.grant.specs.Grants.{Verdict}
use Rattle.rights.specs.Rights.{right_number, is_right, covers}
use Rattle.issuing.specs.Issuing.{issue_tries}
use Rattle.revocation.specs.Claims.{Opening}

-- a verdict that opens, with this contractor and this right
pub record OpensFor (v : Verdict) (contractor right : ℕ) : Type 0 where
  pub grant : Grant
  pub is : v ≡ Ok grant
  pub names-contractor : grant.contractor ≡ contractor
  pub names-right : right_number grant.right ≡ right

-- the verdict on a grant opens if, and only if, the grant is an opening one; it then has the grant's contractor and the right asked for
pub record Decides (key : List ℕ) (rounds : ℕ) (roll : Roll) (grant : List ℕ) (block right : ℕ) (v : Verdict) : Type 0 where
  pub opens_if : (o : Opening key rounds roll grant block right) → OpensFor v o.contractor right
  pub opens_only_if : (g : Grant) → v ≡ Ok g → Opening key rounds roll grant block right

-- what is left to try of a grant that was just issued with a right, on the same roll and for the same size block: 7 if what is asked for is no right,
-- then 10 if the grant's right does not cover it
abbrev pub covered_tries : ℕ → ℕ → List Try
covered_tries right asked = (7 unless is_right asked) ∷ (10 unless covers right asked) ∷ []

-- issued, and then checked: the reasons of the issue, and then those
abbrev pub issued_tries : List ℕ → ℕ → Roll → ℕ → ℕ → ℕ → ℕ → List ℕ → List Try
issued_tries key rounds roll contractor block right asked out = issue_tries key rounds roll contractor block right out ++ covered_tries right asked
