-- Lists of calls on one key holder: document 01, "Key stages", from "Before its part on subkey lists, demand 3 speaks of one holder".
use Rattle.std.specs.Prelude.{cond, List, [], ◌∷◌, ℕ, ltb, length}
use Rattle.block_bytes.specs.Blocks.{bytes_of}
use Rattle.sizes.specs.Sizes.{t_of, turn}
use Rattle.stages.specs.Stages.{stage, subkey_of}
use Rattle.cycle.specs.Cycle.{following, preceding}
use Rattle.holder.specs.declared.Holder.{Holder}
use Rattle.holder.specs.declared.Way.{Way}
use Rattle.holder.specs.declared.Way.TheVariants.{Forward, Back}
use Rattle.holder.specs.Holder.{holder_at}
use Rattle.holder_walk.specs.Walk.{ring_distance, way_to, walk_number, walk_holder, walk_steps, walk_way}
use Rattle.holder_steps.specs.Steps.{holder_number, step_holder, subkey_held}

-- a step forward, a step back, a request for the subkey, or a walk to a stage
pub data Call : Type 0 where
  forward back subkey : Call
  walk : ℕ → Call

-- what a call answers: its refusal number (0: none) and the holder that it returns; of a walk also the steps and the direction that it
-- reports; of a request for the subkey, which returns no holder, the subkey
pub data Answer : Type 0 where
  held : ℕ → Holder → Answer
  reported : ℕ → Holder → ℕ → Way → Answer
  given : ℕ → List ℕ → Answer

-- ---- the run: by the meanings that the calls' contracts cite
unfoldable pub answer : Call → Holder → Answer
answer forward h = held (holder_number h) (step_holder Forward h)
answer back h = held (holder_number h) (step_holder Back h)
answer subkey h = given (holder_number h) (subkey_held h)
answer (walk d) h = reported (walk_number h d) (walk_holder h d) (walk_steps h d) (walk_way h d)

-- the holder that an answer returns or leaves
unfoldable pub left_by : Answer → Holder → Holder
left_by (held n r) h = r
left_by (reported n r steps way) h = r
left_by (given n k) h = h

unfoldable pub returned : Call → Holder → Holder
returned c h = left_by (answer c h) h

-- the holder after a list of calls, each handed the holder that the one before it returned or left, and all that the calls answered
unfoldable pub last_holder : List Call → Holder → Holder
last_holder [] h = h
last_holder (c ∷ cs) h = last_holder cs (returned c h)

unfoldable pub answers : List Call → Holder → List Answer
answers [] h = []
answers (c ∷ cs) h = answer c h ∷ answers cs (returned c h)

-- ---- the place: reckoned from t, the kinds of the calls and the numbers asked of the walks, and from nothing else
unfoldable pub place_after : ℕ → Call → ℕ → ℕ
place_after t forward s = following t s
place_after t back s = preceding t s
place_after t subkey s = s
place_after t (walk d) s = cond (ltb d (turn t)) d s

unfoldable pub last_place : ℕ → List Call → ℕ → ℕ
last_place t [] s = s
last_place t (c ∷ cs) s = last_place t cs (place_after t c s)

-- what a call has to answer on a holder of a key at place s
unfoldable pub expected_answer : List ℕ → Call → ℕ → Answer
expected_answer key forward s = held 0 (holder_at key (following (t_of (length key)) s))
expected_answer key back s = held 0 (holder_at key (preceding (t_of (length key)) s))
expected_answer key subkey s = given 0 (bytes_of (subkey_of (stage (t_of (length key)) key s)))
expected_answer key (walk d) s =
    cond (ltb d (turn (t_of (length key))))
    (reported 0 (holder_at key d) (ring_distance (t_of (length key)) s d) (way_to (t_of (length key)) s d))
    (reported 5 (holder_at key s) 0 Forward)

-- and the calls of a list, the first at place s
unfoldable pub expected_answers : List ℕ → List Call → ℕ → List Answer
expected_answers key [] s = []
expected_answers key (c ∷ cs) s = expected_answer key c s ∷ expected_answers key cs (place_after (t_of (length key)) c s)
