-- What the C calls for a stage straight from the key, and for its subkey, return and write.
use Rattle.std.specs.Prelude.{List, [], ◌∷◌, ◌++◌, ℕ, leb, length}
use Rattle.refusal.specs.Tries.{Try, ◌unless◌, first, written}
use Rattle.block_bytes.specs.Blocks.{bytes_of}
use Rattle.sizes.specs.Sizes.{t_of}
use Rattle.stages.specs.Columns.{padded}
use Rattle.stages.specs.Stages.{stage, subkey_of}
use Rattle.holder_from_key.specs.FromKey.{straight_tries}

-- the order of the stage straight from the key, 1 and 5, and then the room: 4
abbrev pub stage_room_tries : ℕ → List ℕ → ℕ → ℕ → List Try
stage_room_tries least key n room = straight_tries (length key) n ++ ((4 unless leb least room) ∷ [])

abbrev pub stage_call_tries : ℕ → List ℕ → ℕ → List ℕ → List Try
stage_call_tries least key n out = stage_room_tries least key n (length out)

abbrev pub stage_call_number : ℕ → List ℕ → ℕ → List ℕ → ℕ
stage_call_number room key n out = first (stage_call_tries room key n out)

-- the stage in 24 bytes with zeros past it
unfoldable pub stage_call_output : List ℕ → ℕ → List ℕ → List ℕ
stage_call_output key n out = written (stage_call_number 24 key n out) (padded (stage (t_of (length key)) key n)) out

unfoldable pub subkey_call_output : List ℕ → ℕ → List ℕ → List ℕ
subkey_call_output key n out = written (stage_call_number 12 key n out) (bytes_of (subkey_of (stage (t_of (length key)) key n))) out
