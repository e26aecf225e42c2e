-- The settings of a page, two keys and a round count: request 3, "1 (in every call also where the two keys for a page are equal or of unequal
-- lengths), 2", with which both order lines begin.
use Rattle.std.specs.Prelude.{Bool, ◌&&◌, not, List, [], ◌∷◌, ℕ, eqb, length}
use Rattle.refusal.specs.Tries.{Try, ◌unless◌}
use Rattle.sizes.specs.Sizes.{key_length, rounds_allowed}
use Rattle.byte_slices.specs.Slices.{same_bytes}

-- the keys have one length, which a key may have, and are not equal
unfoldable pub are_pair : List ℕ → List ℕ → Bool
are_pair key₁ key₂ = key_length (length key₁) && (eqb (length key₂) (length key₁) && not (same_bytes key₁ key₂))

abbrev pub pair_tries : List ℕ → List ℕ → ℕ → List Try
pair_tries key₁ key₂ rounds = (1 unless are_pair key₁ key₂) ∷ (2 unless rounds_allowed (length key₁) rounds) ∷ []
