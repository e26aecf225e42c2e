-- Subkey lists in bytes that the engine takes: document 01, "Reasons found in the input".
use Rattle.std.specs.Prelude.{Bool, ◌&&◌, ℕ, ◌%◌, eqb, leb}

-- 132 to 288 bytes, a multiple of 12: 11 to 24 subkeys
abbrev pub list_length : ℕ → Bool
list_length n = leb 132 n && (leb n 288 && eqb (n % 12) 0)
