-- Settings, a key and a round count: 1 and 2, with which document 01's order lines of the cipher, a prepared list, issue and check begin, and request 2's
-- of the queue, for a key of n bytes.
use Rattle.std.specs.Prelude.{List, [], ◌∷◌, ℕ}
use Rattle.refusal.specs.Tries.{Try, ◌unless◌}
use Rattle.sizes.specs.Sizes.{key_length, rounds_allowed}

abbrev pub settings_tries : ℕ → ℕ → List Try
settings_tries n rounds = (1 unless key_length n) ∷ (2 unless rounds_allowed n rounds) ∷ []
