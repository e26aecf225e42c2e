-- What the C call that walks a lent holder has to show: where it does not refuse, it writes a whole holder, and there is room for it.
use mathlib.Core.Path.{◌≡◌, refl, sym, ap, ◌∙◌}
use mathlib.Core.List.{List}
use Prim.Native.Nat.{ℕ}
use Rattle.refusal.proofs.Answers.{answer-done}
use Rattle.refusal.proofs.Ladder.{all_pass}
use Rattle.holder.specs.declared.Holder.{Holder}
use Rattle.holder.specs.Holder.{t_held, whole}
use Rattle.holder.proofs.Whole.{steps-whole}
use Rattle.holder_walk.specs.Walk.{ring_distance, way_to, walked, walk_tries, walk_number, walk_holder}
use Rattle.holder_bytes.specs.HolderBytes.{holder_of}
use Rattle.holder_bytes.specs.ForProver.{Writable}
use Rattle.holder_bytes.proofs.Lent.{room}

pub walk_writes : (lent : List ℕ) (h : Holder) → h ≡ holder_of lent → (d : ℕ) (x : Holder) → 0 ≡ walk_number h d → x ≡ walk_holder h d
    → Writable x lent
unfolding walk_holder walked
walk_writes lent h eh d x en ex =
    let w = (all_pass (walk_tries h d) refl (sym en)).0 in
    let s = steps-whole (way_to (t_held h) h.number d) (ring_distance (t_held h) h.number d) h w in
    (ap whole (ex ∙ sym (answer-done (walk_tries h d) (walked h d) h (sym en))) ∙ s, room lent (sym (ap whole eh) ∙ w))
