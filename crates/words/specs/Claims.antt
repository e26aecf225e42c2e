-- What is claimed of four bytes in a word. A term of each type stands in proofs/Claims.antt.
use Rattle.std.specs.Prelude.{◌≡◌, ℕ, ◌^◌, ◌<◌}
use Rattle.words.specs.Words.{doubled, shifted_and_masked}

-- shift and mask double each of the four bytes, and nothing runs from one into another
unfoldable pub DoublingByMasks : Type 0
DoublingByMasks = (w : ℕ) → w < 2 ^ 32 → shifted_and_masked w ≡ doubled w
