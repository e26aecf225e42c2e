-- The subkeys of a key's stages in 24 bytes.
use mathlib.Core.Path.{◌≡◌, ap, ◌∙◌}
use mathlib.Core.Bool.{true}
use mathlib.Core.List.{List}
use Prim.Native.Nat.{ℕ, ◌*◌}
use native.Mathlib.Omega.{arith}
use lib.ListN.{length}
use Rattle.layers.specs.State.{State}
use Rattle.sizes.specs.Sizes.{key_length, t_of}
use Rattle.stages.specs.Columns.{padded}
use Rattle.stages.specs.Stages.{stage, subkey_of}
use Rattle.sizes.proofs.Keys.{a_key}
use Rattle.stages.proofs.Keys.{key-length, length-stage}
use Rattle.stages.proofs.Padded.{padded_agrees, subkey_agrees}
use Rattle.key_lists.specs.KeyLists.{subkey}

-- the code's subkey is the key's
pub selected : (key : List ℕ) → key_length (length key) ≡ true → (s : ℕ) (k : List ℕ) (r : State)
    → k ≡ padded (stage (t_of (length key)) key s) → r ≡ subkey_of k → r ≡ subkey key s
selected key h s k r ek er =
    let t = t_of (length key) in
    er ∙ ap subkey_of ek
    ∙ subkey_agrees (2 * t) (padded (stage t key s)) (stage t key s) (omega (arith, (a_key (length key) h).sized.least))
    (padded_agrees (2 * t) (stage t key s) (length-stage t key (key-length key h) s))
