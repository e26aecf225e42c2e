-- What is claimed of the S-box. A term of each type stands in proofs/Claims.antt.
use Rattle.std.specs.Prelude.{◌≡◌, ℕ, ◌<◌, get_or}
use Rattle.sbox.specs.Sbox.{sbox}
use Rattle.sbox.specs.Published.{published}

-- the S-box is its own inverse, and gives bytes
unfoldable pub SboxUndoesItself : Type 0
SboxUndoesItself = (x : ℕ) → x < 256 → (sbox (sbox x) ≡ x) × (sbox x < 256)

-- the S-box is the published one
unfoldable pub SboxIsPublished : Type 0
SboxIsPublished = (x : ℕ) → x < 256 → sbox x ≡ get_or published x 0
