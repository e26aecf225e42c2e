-- What a walk does and answers: document 01, "Key stages", and the order line "holder 24, 5". A refusal is the number beside the unchanged holder.
use Rattle.std.specs.Prelude.{cond, List, [], ◌∷◌, ℕ, ◌+◌, ◌-◌, ◌*◌, ◌%◌, ltb, leb}
use Rattle.refusal.specs.Tries.{Try, ◌unless◌, first, answered}
use Rattle.sizes.specs.Sizes.{turn}
use Rattle.basics.specs.Repeated.{repeated}
use Rattle.holder.specs.declared.Holder.{Holder}
use Rattle.holder.specs.declared.Way.{Way}
use Rattle.holder.specs.declared.Way.TheVariants.{Forward, Back}
use Rattle.holder.specs.Holder.{t_held, whole, stepped}
use Rattle.holder_walk.specs.declared.Walked.{Walked}

-- f = (d - s) modulo 6t: the steps forward from stage s to stage d
abbrev pub steps_forward : ℕ → ℕ → ℕ → ℕ
steps_forward t s d = (d + (turn t - s)) % turn t

-- the distance of two stage numbers around the ring: f steps if f is at most 3t, else 6t - f
unfoldable pub ring_distance : ℕ → ℕ → ℕ → ℕ
ring_distance t s d = cond (leb (steps_forward t s d) (3 * t)) (steps_forward t s d) (turn t - steps_forward t s d)

-- the direction of that way: forward if f is at most 3t, also for no steps at all, else back
unfoldable pub way_to : ℕ → ℕ → ℕ → Way
way_to t s d = cond (leb (steps_forward t s d) (3 * t)) Forward Back

-- a walk takes that many steps, that way
unfoldable pub walked : Holder → ℕ → Holder
walked h d = repeated (ring_distance (t_held h) h.number d) (stepped (way_to (t_held h) h.number d)) h

-- ---- the call, to stage d
abbrev pub walk_tries : Holder → ℕ → List Try
walk_tries h d = (24 unless whole h) ∷ (5 unless ltb d (turn (t_held h))) ∷ []

abbrev pub walk_number : Holder → ℕ → ℕ
walk_number h d = first (walk_tries h d)

unfoldable pub walk_holder : Holder → ℕ → Holder
walk_holder h d = answered (walk_number h d) (walked h d) h

-- the steps and the direction that it reports; a refused walk reports 0 steps forward
unfoldable pub walk_steps : Holder → ℕ → ℕ
walk_steps h d = answered (walk_number h d) (ring_distance (t_held h) h.number d) 0

unfoldable pub walk_way : Holder → ℕ → Way
walk_way h d = answered (walk_number h d) (way_to (t_held h) h.number d) Forward

-- what stands in a walk's place where it is refused: the holder as it was
abbrev pub stayed : Holder → Walked
stayed h = record { holder = h; steps = 0; way = Forward }
