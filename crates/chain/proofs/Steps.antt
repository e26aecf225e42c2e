-- One block of a chaining: the list of what is left to chain gets one block shorter.
use mathlib.Core.Path.{◌≡◌, sym, ap, ap₂, ◌∙◌}
use mathlib.Core.List.{List, [], ◌++◌}
use Prim.Native.Nat.{ℕ, ◌+◌, ◌/◌, ◌≤◌, ◌<◌}
use native.Mathlib.Omega.{arith}
use native.Mathlib.Numerals.{add-one}
use lib.ListN.{length, get_or, drop, drop_of_length-le}
use lib.Seq.{drop-cons}
use Rattle.layers.specs.State.{State}
use Rattle.layers.specs.Layers.{added}
use Rattle.block_bytes.specs.Blocks.{bytes_of, list_states, list_bytes}
use Rattle.block_bytes.proofs.Lists.{length_states}
use Rattle.chaining.specs.Chaining.{chained, last_of}

module _ (f : State → State) (bytes : List ℕ) (i : ℕ) (previous next : State) where
  -- what is left to chain
  abbrev pub left : List State
  left = chained f previous (drop i (list_states bytes))

  pub chained-next : i < length bytes / 12 → next ≡ f (added previous (get_or (list_states bytes) i []))
      → (list_bytes left ≡ bytes_of next ++ list_bytes (chained f next (drop (i + 1) (list_states bytes))))
      × (last_of previous left ≡ last_of next (chained f next (drop (i + 1) (list_states bytes))))
  unfolding chained list_bytes last_of
  chained-next h e =
      let bs = list_states bytes in
      let c = ap (chained f previous) (drop-cons bs i [] (omega (arith, length_states bytes))) in
      let s = add-one i in (
        ap list_bytes c ∙ ap₂ (λ (x : State) (m : ℕ). bytes_of x ++ list_bytes (chained f x (drop m bs))) (sym e) (sym s),
        ap (last_of previous) c ∙ ap₂ (λ (x : State) (m : ℕ). last_of x (chained f x (drop m bs))) (sym e) (sym s),
      )

  pub chained_end : length bytes / 12 ≤ i → left ≡ []
  unfolding chained
  chained_end h = ap (chained f previous) (drop_of_length-le (list_states bytes) {i = i} (omega (arith, length_states bytes)))
