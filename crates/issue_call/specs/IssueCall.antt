-- What the C call that issues a grant returns and writes. It also tries that the bytes are a roll's: 3, in the order of the numbers.
use Rattle.std.specs.Prelude.{List, ◌++◌, ℕ, length}
use Rattle.refusal.specs.Tries.{Try, first, written}
use Rattle.settings.specs.Settings.{settings_tries}
use Rattle.roll.specs.Roll.{entry_of}
use Rattle.roll_bytes.specs.RollBytes.{roll_of, roll_tries}
use Rattle.issuing.specs.Issuing.{wanted_tries, issued_grant}

abbrev pub issue_call_tries : List ℕ → ℕ → List ℕ → ℕ → ℕ → ℕ → List ℕ → List Try
issue_call_tries key rounds roll contractor size_block right out =
    (settings_tries (length key) rounds ++ roll_tries (length roll)) ++ wanted_tries (length out) contractor size_block right (entry_of
    (roll_of roll) contractor)

abbrev pub issue_call_number : List ℕ → ℕ → List ℕ → ℕ → ℕ → ℕ → List ℕ → ℕ
issue_call_number key rounds roll contractor size_block right out = first (issue_call_tries key rounds roll contractor size_block right out)

unfoldable pub issue_call_output : List ℕ → ℕ → List ℕ → ℕ → ℕ → ℕ → List ℕ → List ℕ
issue_call_output key rounds roll contractor size_block right out =
    written (issue_call_number key rounds roll contractor size_block right out) (issued_grant key rounds (roll_of roll) contractor size_block right) out
