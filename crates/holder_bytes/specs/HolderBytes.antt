-- A key holder as hosts keep and lend it: 26 bytes, which are the key's length, the stage's number and the stage's 24 bytes.
use Rattle.std.specs.Prelude.{cond, List, ◌∷◌, ℕ, eqb, length, get_or, drop}
use Rattle.holder.specs.declared.Holder.{Holder}
use Rattle.holder.specs.Holder.{blank}

abbrev pub holder_length : ℕ
holder_length = 26

-- the key's length, the stage's number, and the stage
abbrev pub parts_of : List ℕ → Holder
parts_of bytes = record { length = get_or bytes 0 0; number = get_or bytes 1 0; bytes = drop 2 bytes }

-- the holder that lent bytes hold. Where they are not 26 bytes it is the blank holder, which every call refuses with 24
unfoldable pub holder_of : List ℕ → Holder
holder_of bytes = cond (eqb (length bytes) holder_length) (parts_of bytes) blank

-- and back
unfoldable pub holder_bytes : Holder → List ℕ
holder_bytes h = h.length ∷ h.number ∷ h.bytes
