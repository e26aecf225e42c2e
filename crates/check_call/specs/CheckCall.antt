-- What the C call of the check returns: document 01, "What the store calls", with the right asked for, as request 1 has it, and reason 3, as request 6
-- has it. Its order is that of the check.
use Rattle.std.specs.Prelude.{◌&&◌, List, ◌++◌, ℕ, ◌+◌, ◌*◌, eqb, length, Ok, Err}
use Rattle.refusal.specs.Reasons.{reason_number}
use Rattle.refusal.specs.Tries.{Try, first, answered}
use Rattle.roll_bytes.specs.RollBytes.{roll_length, roll_of}
use Rattle.rights.specs.Rights.{right_number}
use Rattle.grant.specs.Grants.{Verdict, contractor_in}
use Rattle.judging.specs.Judging.{input_tries, plain_tries}
use Rattle.checking.specs.Checking.{opened_grant, entry_now}

-- a verdict as a number: the refusal number, or 1,000 times the right plus the contractor
abbrev pub verdict_code : Verdict → ℕ
verdict_code (Ok g) = 1000 * right_number g.right + g.contractor
verdict_code (Err r) = reason_number r

-- the order line of the C call: that of the check, with 3 for the roll or the grant
abbrev pub call_tries : List ℕ → ℕ → List ℕ → List ℕ → ℕ → ℕ → List Try
call_tries key rounds roll grant size_block right =
    input_tries (length key) rounds (eqb (length roll) roll_length && eqb (length grant) 12) size_block right
    ++ plain_tries (opened_grant key rounds grant) (entry_now key rounds (roll_of roll) grant) size_block right

-- what it answers: the first reason's number, or 1,000 times the right that was asked for plus the grant's contractor
unfoldable pub call_code : List ℕ → ℕ → List ℕ → List ℕ → ℕ → ℕ → ℕ
call_code key rounds roll grant size_block right =
    answered (first (call_tries key rounds roll grant size_block right))
    (1000 * right + contractor_in (opened_grant key rounds grant))
    (first (call_tries key rounds roll grant size_block right))
