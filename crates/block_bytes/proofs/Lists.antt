-- The subkeys of a lent list, by their places.
use mathlib.Core.Path.{◌≡◌, sym, ap₂, ◌∙◌}
use mathlib.Core.List.{List, []}
use Prim.Native.Nat.{ℕ, ◌+◌, ◌-◌, ◌*◌, ◌/◌, ◌<◌}
use native.Mathlib.Omega.{arith}
use lib.ListN.{length, get_or, take, drop}
use Rattle.rounds.proofs.Turned.{length-listed, get_or-listed}
use Rattle.block_bytes.specs.Blocks.{state_of, list_states}

pub length_states : (bytes : List ℕ) → length (list_states bytes) ≡ length bytes / 12
unfolding list_states
length_states bytes = length-listed (length bytes / 12) (λ r. state_of (take 12 (drop (12 * r) bytes)))

pub state_at : (bytes : List ℕ) (r : ℕ) → r < length bytes / 12 → get_or (list_states bytes) r [] ≡ state_of (take 12 (drop (12 * r) bytes))
unfolding list_states
state_at bytes r h = get_or-listed [] (length bytes / 12) (λ r. state_of (take 12 (drop (12 * r) bytes))) r h

-- block i of some bytes, as code reads it from a place on of bytes that are still as they were there
pub block_read : (bytes rest : List ℕ) (i : ℕ) → i < length bytes / 12 → rest ≡ drop (12 * i) bytes
    → state_of (take (12 * i + 12 - 12 * i) rest) ≡ get_or (list_states bytes) i []
block_read bytes rest i h e =
    let n : 12 * i + 12 - 12 * i ≡ 12 = omega arith in
    ap₂ (λ (m : ℕ) (l : List ℕ). state_of (take m l)) n e ∙ sym (state_at bytes i h)
