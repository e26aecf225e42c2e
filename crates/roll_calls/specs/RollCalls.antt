-- What the C calls on a roll's bytes return and write: entering, withdrawing and changing the highest right, which also try that the bytes are a
-- roll's, 3, in the order of the numbers; and the empty roll, which tries only that there is room for it: 4.
use Rattle.std.specs.Prelude.{List, [], ◌∷◌, ◌++◌, ℕ, leb, length}
use Rattle.refusal.specs.Tries.{Try, ◌unless◌, first, written}
use Rattle.roll.specs.Roll.{empty_roll, count_of}
use Rattle.roll_changes.specs.Changes.{enter_tries, entered_roll, withdraw_tries, withdrawn_roll, change_tries, changed_roll}
use Rattle.roll_bytes.specs.RollBytes.{roll_length, roll_of, roll_bytes, roll_tries}

-- ---- the empty roll
abbrev pub empty_call_tries : List ℕ → List Try
empty_call_tries out = (4 unless leb roll_length (length out)) ∷ []

abbrev pub empty_call_number : List ℕ → ℕ
empty_call_number out = first (empty_call_tries out)

unfoldable pub empty_call_output : List ℕ → List ℕ
empty_call_output out = written (empty_call_number out) (roll_bytes empty_roll) out

-- ---- entering
abbrev pub enter_call_tries : List ℕ → ℕ → ℕ → List Try
enter_call_tries roll c right = roll_tries (length roll) ++ enter_tries c right (count_of (roll_of roll) c)

abbrev pub enter_call_number : List ℕ → ℕ → ℕ → ℕ
enter_call_number roll c right = first (enter_call_tries roll c right)

unfoldable pub enter_call_roll : List ℕ → ℕ → ℕ → List ℕ
enter_call_roll roll c right = written (enter_call_number roll c right) (roll_bytes (entered_roll (roll_of roll) c right)) roll

-- ---- withdrawing
abbrev pub withdraw_call_tries : List ℕ → ℕ → List Try
withdraw_call_tries roll c = roll_tries (length roll) ++ withdraw_tries c (count_of (roll_of roll) c)

abbrev pub withdraw_call_number : List ℕ → ℕ → ℕ
withdraw_call_number roll c = first (withdraw_call_tries roll c)

unfoldable pub withdraw_call_roll : List ℕ → ℕ → List ℕ
withdraw_call_roll roll c = written (withdraw_call_number roll c) (roll_bytes (withdrawn_roll (roll_of roll) c)) roll

-- ---- changing the right
abbrev pub change_call_tries : List ℕ → ℕ → ℕ → List Try
change_call_tries roll c right = roll_tries (length roll) ++ change_tries c right (count_of (roll_of roll) c)

abbrev pub change_call_number : List ℕ → ℕ → ℕ → ℕ
change_call_number roll c right = first (change_call_tries roll c right)

unfoldable pub change_call_roll : List ℕ → ℕ → ℕ → List ℕ
change_call_roll roll c right = written (change_call_number roll c right) (roll_bytes (changed_roll (roll_of roll) c right)) roll
