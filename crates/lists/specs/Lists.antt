-- What preparing a list answers: document 01, "What the store calls", and the order line of a prepared list.
use Rattle.std.specs.Prelude.{List, [], ◌∷◌, ◌++◌, ℕ, ◌+◌, ◌*◌, leb, length}
use Rattle.refusal.specs.Tries.{Try, ◌unless◌, first, written}
use Rattle.settings.specs.Settings.{settings_tries}
use Rattle.key_lists.specs.declared.Direction.{Direction}
use Rattle.key_lists.specs.KeyLists.{prepared}

-- the order of refusals of preparing a list: 1, 2, 4. The direction is a choice of two and cannot be wrong
abbrev pub prepare_tries : List ℕ → ℕ → List ℕ → List Try
prepare_tries key rounds out = settings_tries (length key) rounds ++ ((4 unless leb (12 * (rounds + 1)) (length out)) ∷ [])

-- the number that preparing a list gives, and what the output holds after it
abbrev pub prepare_number : List ℕ → ℕ → List ℕ → ℕ
prepare_number key rounds out = first (prepare_tries key rounds out)

abbrev pub prepare_output : Direction → List ℕ → ℕ → List ℕ → List ℕ
prepare_output d key rounds out = written (prepare_number key rounds out) (prepared d key rounds) out
