-- How long the parts of a page are.
use mathlib.Core.Path.{◌≡◌, refl, ap₂, ◌∙◌}
use mathlib.Core.List.{List}
use Prim.Native.Nat.{ℕ, ◌+◌, ◌-◌, ◌*◌, ◌≤◌}
use native.Mathlib.Omega.{arith}
use lib.ListN.{length, take, drop, replicate, length-append, length-drop, length-replicate}
use lib.Seq.{length-take-le}
use Rattle.layers.specs.State.{State}
use Rattle.block_bytes.specs.Blocks.{state_of}
use Rattle.chaining.specs.Chaining.{chained_bytes}
use Rattle.chaining.proofs.Bytes.{length_chained_bytes, length_unchained_bytes}
use Rattle.pages.specs.Pages.{header, filled, stored, check_over, page_of, payload_in, cleared}

-- 41 blocks of payload
pub length-filled : (payload : List ℕ) → length payload ≤ 492 → length (filled payload) ≡ 12 * 41
length-filled payload h =
    length-append payload (replicate (492 - length payload) 0) ∙ omega (arith, length-replicate {A = ℕ} (492 - length payload) 0)

pub length-stored : (f : State → State) (head payload : List ℕ) → length head ≡ 12 → length payload ≤ 492 → length (stored f head payload) ≡ 504
unfolding stored
length-stored f head payload twelve fits =
    let s = f (state_of head) in
    let c = length_chained_bytes s (filled payload) 41 (length-filled payload fits) f in
    length-append head (chained_bytes f s (filled payload)) ∙ omega (arith, twelve, c)

pub length-check : (h : State → State) (bytes : List ℕ) → length (check_over h bytes) ≡ 8
unfolding check_over
length-check h bytes = refl

pub length-page : (f h : State → State) (block number : ℕ) (payload : List ℕ) → length payload ≤ 492 → length (page_of f h block number payload) ≡ 512
unfolding page_of
length-page f h block number payload fits =
    let s = stored f (header block number (length payload)) payload in
    length-append s (check_over h s) ∙ ap₂ ◌+◌ (length-stored f _ payload refl fits) (length-check h s)

pub length_payload : (f g : State → State) (page : List ℕ) → length page ≡ 512 → length (payload_in f g page) ≡ 492
unfolding payload_in
length_payload f g page size =
    let part = take 492 (drop 12 page) in
    let n = length-take-le 492 (drop 12 page) (omega (arith, length-drop 12 page, size)) in
    length_unchained_bytes (f (state_of (take 12 page))) part 41 n g

pub length_cleared : length cleared ≡ 576
unfolding cleared
length_cleared = length-replicate {A = ℕ} 576 0
