-- A key's stage in 24 bytes, as the C calls hand it out.
use mathlib.Core.Path.{◌≡◌, refl, sym}
use mathlib.Core.List.{List}
use Prim.Native.Nat.{ℕ, ◌*◌}
use native.Mathlib.Omega.{arith}
use lib.ListN.{length}
use Rattle.refusal.specs.Tries.{first}
use Rattle.refusal.proofs.Ladder.{all_pass}
use Rattle.stage_calls.specs.StageCalls.{stage_room_tries}
use Rattle.sizes.specs.Sizes.{t_of}
use Rattle.sizes.proofs.Keys.{a_key}
use Rattle.stages.specs.Columns.{padded}
use Rattle.stages.specs.Stages.{stage, subkey_of}
use Rattle.stages.proofs.Keys.{key-length, length-stage}
use Rattle.stages.proofs.Padded.{padded_agrees, subkey_agrees}

-- the subkey of a stage in 24 bytes is the stage's, where a call for it is not refused
pub subkey_padded : (key : List ℕ) (n least room : ℕ) → 0 ≡ first (stage_room_tries least key n room)
    → subkey_of (padded (stage (t_of (length key)) key n)) ≡ subkey_of (stage (t_of (length key)) key n)
subkey_padded key n least room e =
    let t = t_of (length key) in
    let right = (all_pass (stage_room_tries least key n room) refl (sym e)).0 in
    subkey_agrees (2 * t) (padded (stage t key n)) (stage t key n) (omega (arith, (a_key (length key) right).sized.least))
    (padded_agrees (2 * t) (stage t key n) (length-stage t key (key-length key right) n))
