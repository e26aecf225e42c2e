-- What is known of walks: the shorter way, what a refused one answers, and how many steps one has.
use mathlib.Core.Path.{◌≡◌, refl, ap}
use mathlib.Core.Logic.{inl, inr}
use mathlib.Core.Bool.{Bool, cond}
use Prim.Native.Nat.{ℕ, ◌-◌, ◌*◌, ◌≤◌, ◌<◌}
use native.Mathlib.Omega.{arith}
use borrow.Author.Tests.{le-leb, lt-leb}
use Rattle.basics.proofs.Tests.{below_or_not}
use Rattle.refusal.proofs.Answers.{answer-refused, answer_either}
use Rattle.refusal.proofs.Ladder.{all_pass}
use Rattle.sizes.specs.Sizes.{turn}
use Rattle.holder.specs.declared.Holder.{Holder}
use Rattle.holder.specs.declared.Way.{Way}
use Rattle.holder.specs.declared.Way.TheVariants.{Forward, Back}
use Rattle.holder.specs.Holder.{t_held}
use Rattle.holder.proofs.Whole.{a_whole, size-held}
use Rattle.holder_walk.specs.Walk.{steps_forward, ring_distance, way_to, walked, walk_tries, walk_number, walk_holder, walk_steps, walk_way}

-- ---- the shorter way
pub ring_forward : (t s d : ℕ) → steps_forward t s d ≤ 3 * t → (ring_distance t s d ≡ steps_forward t s d) × (way_to t s d ≡ Forward)
unfolding ring_distance way_to
ring_forward t s d h =
    let e = le-leb (steps_forward t s d) (3 * t) h in
    (ap (λ (b : Bool). cond b (steps_forward t s d) (turn t - steps_forward t s d)) e, ap (λ (b : Bool). cond b Forward Back) e)

pub ring_back : (t s d : ℕ) → 3 * t < steps_forward t s d → (ring_distance t s d ≡ turn t - steps_forward t s d) × (way_to t s d ≡ Back)
unfolding ring_distance way_to
ring_back t s d h =
    let e = lt-leb (steps_forward t s d) (3 * t) h in
    (ap (λ (b : Bool). cond b (steps_forward t s d) (turn t - steps_forward t s d)) e, ap (λ (b : Bool). cond b Forward Back) e)

-- it has at most 3t steps
pub ring_most : (t s d : ℕ) → ring_distance t s d ≤ 3 * t
ring_most t s d = elim (below_or_not (3 * t) (steps_forward t s d)) [
  | inl l ↦ omega (arith, (ring_back t s d l).0)
  | inr l ↦ omega (arith, (ring_forward t s d l).0)
]

-- ---- the answers
-- what the call's contract says of the holder, the steps and the direction
abbrev pub Answers : Holder → ℕ → Holder → ℕ → Way → Type 0
Answers h d r steps way = (r ≡ walk_holder h d) × ((steps ≡ walk_steps h d) × ((way ≡ walk_way h d) × (steps ≤ 3 * t_held h)))

module _ (h : Holder) (d : ℕ) where
  pub walk_refused : (n : ℕ) → 0 < n → walk_number h d ≡ n → Answers h d h 0 Forward
  unfolding walk_holder walk_steps walk_way
  walk_refused n p e = (
    answer-refused (walk_tries h d) n (walked h d) h p e,
    (
      answer-refused (walk_tries h d) n (ring_distance (t_held h) h.number d) 0 p e,
      (answer-refused (walk_tries h d) n (way_to (t_held h) h.number d) Forward p e, omega arith),
    ),
  )

-- every walk reports at most 12 steps
pub walk-few : (h : Holder) (d : ℕ) → walk_steps h d ≤ 12
unfolding walk_steps
walk-few h d = answer_either (λ (n : ℕ). n ≤ 12) (walk_number h d) (ring_distance (t_held h) h.number d) 0 by (omega arith)
  where
    by : walk_number h d ≡ 0 → ring_distance (t_held h) h.number d ≤ 12
    by e =
        let w = a_whole h (all_pass (walk_tries h d) refl e).0 in
        omega (arith, ring_most (t_held h) h.number d, (size-held h w).most)
