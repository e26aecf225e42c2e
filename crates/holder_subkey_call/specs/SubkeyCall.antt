-- What the C call for the subkey of a lent key holder returns and writes: what the request by value gives, on the holder that the lent bytes
-- hold.
use Rattle.std.specs.Prelude.{List, [], ◌∷◌, ◌++◌, ℕ, leb, length}
use Rattle.refusal.specs.Tries.{Try, ◌unless◌, first, written}
use Rattle.holder_steps.specs.Steps.{holder_tries, subkey_held}
use Rattle.holder_bytes.specs.HolderBytes.{holder_of}

-- ---- give the subkey: 24, then the room: 4
abbrev pub held_subkey_tries : List ℕ → List ℕ → List Try
held_subkey_tries lent out = holder_tries (holder_of lent) ++ ((4 unless leb 12 (length out)) ∷ [])

abbrev pub held_subkey_number : List ℕ → List ℕ → ℕ
held_subkey_number lent out = first (held_subkey_tries lent out)

unfoldable pub held_subkey_output : List ℕ → List ℕ → List ℕ
held_subkey_output lent out = written (held_subkey_number lent out) (subkey_held (holder_of lent)) out
