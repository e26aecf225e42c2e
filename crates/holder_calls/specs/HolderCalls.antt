-- What the C calls that make and step a lent key holder return and write: what the holder's calls by value do, on the holder that the lent
-- bytes hold.
use Rattle.std.specs.Prelude.{List, [], ◌∷◌, ◌++◌, ℕ, leb, length}
use Rattle.refusal.specs.Tries.{Try, ◌unless◌, first, written}
use Rattle.holder.specs.declared.Way.{Way}
use Rattle.holder_from_key.specs.FromKey.{make_tries, made_holder}
use Rattle.holder_steps.specs.Steps.{holder_number, step_holder}
use Rattle.holder_bytes.specs.HolderBytes.{holder_length, holder_of, holder_bytes}

-- ---- make a holder from a key: 1, then the room: 4
abbrev pub make_call_tries : List ℕ → List ℕ → List Try
make_call_tries key out = make_tries key ++ ((4 unless leb holder_length (length out)) ∷ [])

abbrev pub make_call_number : List ℕ → List ℕ → ℕ
make_call_number key out = first (make_call_tries key out)

unfoldable pub make_call_output : List ℕ → List ℕ → List ℕ
make_call_output key out = written (make_call_number key out) (holder_bytes (made_holder key)) out

-- ---- step forward, step back: 24
abbrev pub step_call_number : List ℕ → ℕ
step_call_number lent = holder_number (holder_of lent)

unfoldable pub step_call_holder : Way → List ℕ → List ℕ
step_call_holder way lent = written (step_call_number lent) (holder_bytes (step_holder way (holder_of lent))) lent
