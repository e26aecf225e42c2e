-- Blocks that were chained are restored, for any two functions of which each undoes the other on states.
use mathlib.Core.Path.{◌≡◌, refl, ap, ap₂, ◌∙◌}
use mathlib.Core.List.{List, [], ◌∷◌}
use Prim.Native.Nat.{◌≤◌}
use lib.ListN.{length}
use Rattle.layers.specs.State.{State, IsState}
use Rattle.layers.specs.Layers.{added}
use Rattle.layers.proofs.Layers.{added-added, added_state}
use Rattle.rounds.specs.Rounds.{enciphered, turned, AllStates}
use Rattle.rounds.proofs.Restored.{restored, enciphered_state}
use Rattle.rounds.proofs.Claims.{restored_by_list}
use Rattle.rounds.proofs.Turned.{turned_states}
use Rattle.rounds.specs.Claims.{RestoredByList}
use Rattle.chaining.specs.Chaining.{chained, unchained, last_of}

-- f enciphers and g deciphers
pub record Undoing (f g : State → State) : Type 0 where
  pub makes : (a : State) → IsState a → IsState (f a)
  pub makes_back : (a : State) → IsState a → IsState (g a)
  pub back : (a : State) → IsState a → g (f a) ≡ a
  pub forth : (a : State) → IsState a → f (g a) ≡ a

-- chaining makes states of states
pub chained_states : (f : State → State) → ((a : State) → IsState a → IsState (f a)) → (start : State) (bs : List State)
    → IsState start → AllStates bs → AllStates (chained f start bs)
unfolding chained
chained_states f m start [] s h = tt
chained_states f m start (b ∷ bs) s h =
    let c = m (added start b) (added_state h.0 s) in (c, chained_states f m (f (added start b)) bs c h.1)

pub unchained_states : (g : State → State) → ((a : State) → IsState a → IsState (g a)) → (start : State) (cs : List State)
    → IsState start → AllStates cs → AllStates (unchained g start cs)
unfolding unchained
unchained_states g m start [] s h = tt
unchained_states g m start (c ∷ cs) s h = (added_state (m c h.0) s, unchained_states g m c cs h.0 h.1)

pub last_state : (start : State) (cs : List State) → IsState start → AllStates cs → IsState (last_of start cs)
unfolding last_of
last_state start [] s h = s
last_state start (c ∷ cs) s h = last_state c cs h.0 h.1

module _ {f g : State → State} (u : Undoing f g) where
  pub restores : (start : State) (bs : List State) → IsState start → AllStates bs → unchained g start (chained f start bs) ≡ bs
  unfolding chained unchained
  restores start [] s h = refl
  restores start (b ∷ bs) s h =
      let a = added_state h.0 s in
      ap₂ {C = List State} ◌∷◌ (ap (added start) (u.back (added start b) a) ∙ added-added h.0 s)
      (restores (f (added start b)) bs (u.makes (added start b) a) h.1)

  pub restored_again : (start : State) (cs : List State) → IsState start → AllStates cs → chained f start (unchained g start cs) ≡ cs
  unfolding chained unchained
  restored_again start [] s h = refl
  restored_again start (c ∷ cs) s h =
      let e : f (added start (added start (g c))) ≡ c = ap f (added-added (u.makes_back c h.0) s) ∙ u.forth c h.0 in
      ap₂ {C = List State} ◌∷◌ e
      (ap (λ (x : State). chained f x (unchained g c cs)) e ∙ restored_again c cs h.0 h.1)

-- the rounds under a list, and under the turned list
pub by_list : (ks : List State) → 2 ≤ length ks → AllStates ks → Undoing (enciphered ks) (enciphered (turned ks))
unfolding RestoredByList
by_list ks two all = record {
  makes = λ a s. enciphered_state ks a all s;
  makes_back = λ a s. enciphered_state (turned ks) a (turned_states ks all).1 s;
  back = λ a s. restored ks a two all s;
  forth = λ a s. restored_by_list ks a two all s;
}
