-- Size blocks: document 01, "Roll and grant", where they are numbers of 32 bits; request 7, "No more block zero".
use Rattle.std.specs.Prelude.{Bool, not, ℕ, eqb}

-- a size block that may be asked for: any number other than 0. Grants and pages of the time before request 7 can name 0, and still do
unfoldable pub is_size_block : ℕ → Bool
is_size_block block = not (eqb block 0)
