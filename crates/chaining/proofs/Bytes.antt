-- Chaining over bytes: lengths, blocks read from whole bytes, and restored bytes.
use mathlib.Core.Path.{◌≡◌, refl, ap, ◌∙◌}
use mathlib.Core.List.{List, [], ◌∷◌}
use Prim.Native.Nat.{ℕ, suc, ◌*◌}
use native.Mathlib.Omega.{arith}
use lib.ListN.{length}
use Rattle.layers.specs.State.{State, IsState}
use Rattle.layers.specs.Layers.{added}
use Rattle.basics.specs.Bytes.{AreBytes}
use Rattle.block_bytes.specs.Blocks.{list_states, list_bytes}
use Rattle.block_bytes.proofs.Lists.{length_states}
use Rattle.block_bytes.proofs.RoundTrip.{length-bytes, list_bytes_lem, list_states_lem, states_list}
use Rattle.chaining.specs.Chaining.{chained, unchained, chained_bytes, unchained_bytes}
use Rattle.chaining.proofs.Restored.{Undoing, chained_states, unchained_states, restores, restored_again}

length-chained : (f : State → State) (start : State) (bs : List State) → length (chained f start bs) ≡ length bs
unfolding chained
length-chained f start [] = refl
length-chained f start (b ∷ bs) = ap suc (length-chained f (f (added start b)) bs)

length-unchained : (g : State → State) (start : State) (cs : List State) → length (unchained g start cs) ≡ length cs
unfolding unchained
length-unchained g start [] = refl
length-unchained g start (c ∷ cs) = ap suc (length-unchained g c cs)

-- whole blocks stay as many bytes
module _ (start : State) (bytes : List ℕ) (n : ℕ) (e : length bytes ≡ 12 * n) where
  pub length_chained_bytes : (f : State → State) → length (chained_bytes f start bytes) ≡ 12 * n
  unfolding chained_bytes
  length_chained_bytes f =
      length-bytes (chained f start (list_states bytes)) ∙ omega (arith, length-chained f start (list_states bytes), length_states bytes)

  pub length_unchained_bytes : (g : State → State) → length (unchained_bytes g start bytes) ≡ 12 * n
  unfolding unchained_bytes
  length_unchained_bytes g =
      length-bytes (unchained g start (list_states bytes)) ∙ omega (arith, length-unchained g start (list_states bytes), length_states bytes)

-- bytes chained and undone, and the other way round
module _ {f g : State → State} (u : Undoing f g) (start : State) (s : IsState start) (bytes : List ℕ) (b : AreBytes bytes)
    (n : ℕ) (e : length bytes ≡ 12 * n) where
  pub restores_bytes : unchained_bytes g start (chained_bytes f start bytes) ≡ bytes
  unfolding chained_bytes unchained_bytes
  restores_bytes =
      let bs = list_states bytes in
      let h = list_states_lem bytes b in
      ap (λ (l : List State). list_bytes (unchained g start l)) (list_bytes_lem (chained f start bs) (chained_states f u.makes start bs s h))
      ∙ ap list_bytes (restores u start bs s h) ∙ states_list bytes n e

  pub restored_bytes : chained_bytes f start (unchained_bytes g start bytes) ≡ bytes
  unfolding chained_bytes unchained_bytes
  restored_bytes =
      let cs = list_states bytes in
      let h = list_states_lem bytes b in
      ap (λ (l : List State). list_bytes (chained f start l)) (list_bytes_lem (unchained g start cs) (unchained_states g u.makes_back start cs s h))
      ∙ ap list_bytes (restored_again u start cs s h) ∙ states_list bytes n e
