-- What is claimed of lists of calls on a key holder, and of full turns: demand 3, before its part on subkey lists. A term of each type stands
-- in proofs/Claims.antt.
use Rattle.std.specs.Prelude.{true, false, ◌≡◌, List, ℕ, ◌*◌, ◌≤◌, ◌<◌, length}
use Rattle.basics.specs.Bytes.{AreBytes}
use Rattle.refusal.specs.Claims.{Ordered}
use Rattle.sizes.specs.Sizes.{key_length, t_of, turn}
use Rattle.basics.specs.Repeated.{repeated}
use Rattle.cycle.specs.Cycle.{following, preceding}
use Rattle.holder.specs.declared.Holder.{Holder}
use Rattle.holder.specs.declared.Way.{Way}
use Rattle.holder.specs.declared.Way.TheVariants.{Forward, Back}
use Rattle.holder.specs.Holder.{t_held, whole, holder_at, blank}
use Rattle.holder_walk.specs.Walk.{ring_distance, way_to, walk_tries, walk_number, walk_holder}
use Rattle.holder_from_key.specs.FromKey.{make_tries, straight_tries, make_number, made_holder, straight_number, straight_holder}
use Rattle.holder_steps.specs.Steps.{holder_tries, holder_number, step_holder}
use Rattle.routes.specs.Routes.{Call, last_holder, answers, last_place, expected_answers}

-- 6t steps on end, all forward or all back, from a whole holder: none is refused, and the holder after them is the one before
pub record ComesHome (h : Holder) (way : Way) : Type 0 where
  pub taken : (m : ℕ) → holder_number (repeated m (step_holder way) h) ≡ 0
  pub home : repeated (turn (t_held h)) (step_holder way) h ≡ h

-- what holds of a list of calls on the holder freshly made from a key
pub record Route (key : List ℕ) (cs : List Call) : Type 0 where
  -- the holder is made
  pub made : make_number key ≡ 0
  -- the place where the list ends is a stage number
  pub below : last_place (t_of (length key)) cs 0 < turn (t_of (length key))
  -- the holder after the list has the key's length, that place, that stage's bytes and zeros past them
  pub ends : last_holder cs (made_holder key) ≡ holder_at key (last_place (t_of (length key)) cs 0)
  -- every call answered what it has to at its place: only walks to 6t or more are refused, with 5, and change nothing
  pub answered : answers cs (made_holder key) ≡ expected_answers key cs 0
  -- the stage given straight from the key and that place is the same holder
  pub given-straight : straight_number key (last_place (t_of (length key)) cs 0) ≡ 0
  pub straight : straight_holder key (last_place (t_of (length key)) cs 0) ≡ last_holder cs (made_holder key)
  -- a full turn from that place, either way, comes home
  pub turns : (way : Way) → ComesHome (last_holder cs (made_holder key)) way

-- for every key of 12, 18 or 24 bytes and every list of calls
unfoldable pub AnyRoute : Type 0
AnyRoute = (key : List ℕ) → AreBytes key → key_length (length key) ≡ true → (cs : List Call) → Route key cs

-- for every whole holder, whether a call made it or it was put together by hand. Every holder of the code has 24 bytes
unfoldable pub FullTurn : Type 0
FullTurn = (h : Holder) → AreBytes h.bytes → length h.bytes ≡ 24 → whole h ≡ true → (way : Way) → ComesHome h way

-- no way around the ring from s to d, forward or back, is shorter than a walk, and a walk takes at most 3t steps
pub record Shortest (t s d : ℕ) : Type 0 where
  pub most : ring_distance t s d ≤ 3 * t
  pub forward : (m : ℕ) → repeated m (following t) s ≡ d → ring_distance t s d ≤ m
  pub back : (m : ℕ) → repeated m (preceding t) s ≡ d → ring_distance t s d ≤ m
  -- its steps lead there, and it goes back only where every way forward is longer
  pub arrives_forward : way_to t s d ≡ Forward → repeated (ring_distance t s d) (following t) s ≡ d
  pub arrives_back : way_to t s d ≡ Back → repeated (ring_distance t s d) (preceding t) s ≡ d
  pub forward_longer : way_to t s d ≡ Back → (m : ℕ) → repeated m (following t) s ≡ d → ring_distance t s d < m

unfoldable pub WalkIsShortest : Type 0
WalkIsShortest = (t s d : ℕ) → s < turn t → d < turn t → Shortest t s d

-- each refusal has its reason, and the first in order is given: of the making, the straight stage, steps with the request for the subkey, and walks
pub record HolderOrdered (key : List ℕ) (n : ℕ) (h : Holder) : Type 0 where
  pub made : Ordered (make_tries key)
  pub straight : Ordered (straight_tries (length key) n)
  pub steps : Ordered (holder_tries h)
  pub walks : Ordered (walk_tries h n)

unfoldable pub HolderInOrder : Type 0
HolderInOrder = (key : List ℕ) (n : ℕ) (h : Holder) → HolderOrdered key n h

-- a refused call leaves the holder as it was handed in
unfoldable pub RefusalKeepsHolder : Type 0
RefusalKeepsHolder = (h : Holder)
    → ((way : Way) → 0 < holder_number h → step_holder way h ≡ h) × ((d : ℕ) → 0 < walk_number h d → walk_holder h d ≡ h)

-- a holder that is not whole is refused with 24 by every call: by steps and the request for the subkey, and by every walk, one to 6t or more among
-- them, since 24 is tried before 5
pub record Refused (h : Holder) : Type 0 where
  pub steps : holder_number h ≡ 24
  pub walks : (d : ℕ) → walk_number h d ≡ 24

unfoldable pub BrokenIsRefused : Type 0
BrokenIsRefused = (h : Holder) → whole h ≡ false → Refused h

-- and so is what stands in the place of a holder that was not made
unfoldable pub BlankIsRefused : Type 0
BlankIsRefused = Refused blank
