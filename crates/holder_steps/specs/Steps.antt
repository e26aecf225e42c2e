-- What a step and a request for the subkey answer: document 01, "Key stages", and the order line "holder 24, 5". A refusal is the number beside
-- the unchanged holder. The subkey comes with no holder.
use Rattle.std.specs.Prelude.{List, [], ◌∷◌, ℕ, replicate}
use Rattle.refusal.specs.Tries.{Try, ◌unless◌, first, answered}
use Rattle.block_bytes.specs.Blocks.{bytes_of}
use Rattle.stages.specs.Stages.{subkey_of}
use Rattle.holder.specs.declared.Holder.{Holder}
use Rattle.holder.specs.declared.Way.{Way}
use Rattle.holder.specs.Holder.{whole, stepped}

-- ---- step forward, step back
abbrev pub holder_tries : Holder → List Try
holder_tries h = (24 unless whole h) ∷ []

-- the number of a refusal to step or to give the subkey, or 0: not the number of a stage
abbrev pub holder_number : Holder → ℕ
holder_number h = first (holder_tries h)

unfoldable pub step_holder : Way → Holder → Holder
step_holder w h = answered (holder_number h) (stepped w h) h

-- ---- give the subkey
-- what stands in the subkey's place where it is refused
abbrev pub no_subkey : List ℕ
no_subkey = replicate 12 0

unfoldable pub subkey_held : Holder → List ℕ
subkey_held h = answered (holder_number h) (bytes_of (subkey_of h.bytes)) no_subkey
