-- Demand 2 of the numbers that the C calls answered, with no side condition: the contracts of this crate's functions, which only make the calls,
-- say it for all that can be handed in.
use Rattle.std.specs.Prelude.{◌≡◌, List, ◌++◌, ℕ, ◌+◌, ◌*◌, ◌≤◌, length}
use Rattle.refusal.specs.Tries.{Try, first, answered}
use Rattle.roll_bytes.specs.RollBytes.{roll_length, roll_of}
use Rattle.revocation.specs.Claims.{Opening}
use Rattle.issue_call.specs.IssueCall.{issue_call_tries}
use Rattle.verdicts.specs.Decisions.{covered_tries}

-- the C call's answer is 1,000 or more if, and only if, the bytes are a roll's and the grant opens on the roll read from them; every other
-- answer is a number from 1 to 999
pub record CallDecides (key : List ℕ) (rounds : ℕ) (roll grant : List ℕ) (block right code : ℕ) : Type 0 where
  pub opens_if : length roll ≡ roll_length → (o : Opening key rounds (roll_of roll) grant block right) → code ≡ 1000 * right + o.contractor
  pub opens_only_if : 1000 ≤ code → (length roll ≡ roll_length) × Opening key rounds (roll_of roll) grant block right
  pub never_zero : 1 ≤ code

-- what is tried by gordzila_issue, and then by gordzila_check of what was written: the reasons of the issue, then 7 and 10 of the right asked for
abbrev pub issued_call_tries : List ℕ → ℕ → List ℕ → ℕ → ℕ → ℕ → ℕ → List ℕ → List Try
issued_call_tries key rounds roll contractor block right asked out =
    issue_call_tries key rounds roll contractor block right out ++ covered_tries right asked

-- and what they answer: the number of the first reason that holds, or 1,000 times the right asked for plus the contractor
unfoldable pub issued_code : List ℕ → ℕ → List ℕ → ℕ → ℕ → ℕ → ℕ → List ℕ → ℕ
issued_code key rounds roll contractor block right asked out =
    answered (first (issued_call_tries key rounds roll contractor block right asked out)) (1000 * asked + contractor)
    (first (issued_call_tries key rounds roll contractor block right asked out))
