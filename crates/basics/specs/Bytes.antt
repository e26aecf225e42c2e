-- Lists of bytes.
use Rattle.std.specs.Prelude.{List, ℕ, ◌<◌, get_or}

-- every number of a list is a byte
abbrev pub AreBytes : List ℕ → Type 0
AreBytes xs = (i : ℕ) → get_or xs i 0 < 256
