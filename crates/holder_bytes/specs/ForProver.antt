-- What only tells the prover something of the code.
use Rattle.std.specs.Prelude.{true, ◌≡◌, List, ℕ, ◌≤◌, length}
use Rattle.holder.specs.declared.Holder.{Holder}
use Rattle.holder.specs.Holder.{whole}
use Rattle.holder_bytes.specs.HolderBytes.{holder_length}

-- a holder that can be written to bytes
abbrev pub Writable : Holder → List ℕ → Type 0
Writable h lent = (whole h ≡ true) × (holder_length ≤ length lent)
