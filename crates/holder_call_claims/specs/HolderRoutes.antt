-- Lists of C calls on one lent key holder, made one after the other, by the meanings that the calls' contracts cite; and the place where
-- the holder is after them.
use Rattle.std.specs.Prelude.{cond, List, [], ◌∷◌, ℕ, ◌+◌, ltb, leb, length}
use Rattle.refusal.specs.Tries.{written}
use Rattle.block_bytes.specs.Blocks.{bytes_of}
use Rattle.sizes.specs.Sizes.{key_length, t_of, turn}
use Rattle.stages.specs.Stages.{stage, subkey_of}
use Rattle.cycle.specs.Cycle.{following, preceding}
use Rattle.holder.specs.declared.Holder.{Holder}
use Rattle.holder.specs.declared.Way.{Way}
use Rattle.holder.specs.declared.Way.TheVariants.{Forward, Back}
use Rattle.holder.specs.Holder.{holder_at}
use Rattle.holder_walk.specs.Walk.{ring_distance, way_to, walk_number, walk_steps, walk_way}
use Rattle.holder_bytes.specs.HolderBytes.{holder_bytes}
use Rattle.holder_calls.specs.HolderCalls.{make_call_number, make_call_output, step_call_number, step_call_holder}
use Rattle.holder_walk_call.specs.WalkCall.{way_code, walk_call_code, walk_call_holder}
use Rattle.holder_subkey_call.specs.SubkeyCall.{held_subkey_number, held_subkey_output}

-- make the holder anew from a key, step it forward or back, walk it to a stage, or ask for its subkey with an output lent for it
pub data HolderCall : Type 0 where
  make : List ℕ → HolderCall
  forward back : HolderCall
  walk : ℕ → HolderCall
  subkey : List ℕ → HolderCall

-- what a call leaves: the number that it answers, the bytes of the lent holder and those of the output, of which only the subkey has one
pub record Left : Type 0 where
  pub number : ℕ
  pub holder : List ℕ
  pub output : List ℕ

-- ---- the run
unfoldable pub leaves : HolderCall → List ℕ → Left
leaves (make key) lent = record { number = make_call_number key lent; holder = make_call_output key lent; output = [] }
leaves forward lent = record { number = step_call_number lent; holder = step_call_holder Forward lent; output = [] }
leaves back lent = record { number = step_call_number lent; holder = step_call_holder Back lent; output = [] }
leaves (walk d) lent = record { number = walk_call_code lent d; holder = walk_call_holder lent d; output = [] }
leaves (subkey out) lent = record { number = held_subkey_number lent out; holder = lent; output = held_subkey_output lent out }

-- the bytes after a list of calls, each lent those that the one before it left, and all that the calls left
unfoldable pub last_bytes : List HolderCall → List ℕ → List ℕ
last_bytes [] lent = lent
last_bytes (c ∷ cs) lent = last_bytes cs (leaves c lent).holder

unfoldable pub all_left : List HolderCall → List ℕ → List Left
all_left [] lent = []
all_left (c ∷ cs) lent = leaves c lent ∷ all_left cs (leaves c lent).holder

-- ---- the place: a key and the number of one of its stages, reckoned from the calls' kinds, the keys and the walks' numbers alone
pub record Place : Type 0 where
  pub key : List ℕ
  pub number : ℕ

abbrev pub t_at : Place → ℕ
t_at p = t_of (length p.key)

-- the 26 bytes of a holder there
abbrev pub bytes_at : Place → List ℕ
bytes_at p = holder_bytes (holder_at p.key p.number)

abbrev pub start_of : List ℕ → Place
start_of key = record { key = key; number = 0 }

abbrev pub moved : Place → ℕ → Place
moved p n = record { key = p.key; number = n }

-- refused calls, which are the making from a key of a wrong length and the walk to 6t or more, and the request for the subkey leave it where it is
unfoldable pub place_after : HolderCall → Place → Place
place_after (make key) p = cond (key_length (length key)) (start_of key) p
place_after forward p = moved p (following (t_at p) p.number)
place_after back p = moved p (preceding (t_at p) p.number)
place_after (walk d) p = cond (ltb d (turn (t_at p))) (moved p d) p
place_after (subkey out) p = p

unfoldable pub last_place : List HolderCall → Place → Place
last_place [] p = p
last_place (c ∷ cs) p = last_place cs (place_after c p)

-- the number that a call has to answer at a place: 1 for a key of a wrong length, 5 for a walk to 6t or more, 4 for an output too short
unfoldable pub expected_number : HolderCall → Place → ℕ
expected_number (make key) p = cond (key_length (length key)) 0 1
expected_number forward p = 0
expected_number back p = 0
expected_number (walk d) p = cond (ltb d (turn (t_at p))) (way_code (way_to (t_at p) p.number d) + ring_distance (t_at p) p.number d) 5
expected_number (subkey out) p = cond (leb 12 (length out)) 0 4

-- and the output
unfoldable pub expected_output : HolderCall → Place → List ℕ
expected_output (make key) p = []
expected_output forward p = []
expected_output back p = []
expected_output (walk d) p = []
expected_output (subkey out) p = written (expected_number (subkey out) p) (bytes_of (subkey_of (stage (t_at p) p.key p.number))) out

-- the holder is at the place after the call
unfoldable pub expected_left : HolderCall → Place → Left
expected_left c p = record { number = expected_number c p; holder = bytes_at (place_after c p); output = expected_output c p }

unfoldable pub all_expected : List HolderCall → Place → List Left
all_expected [] p = []
all_expected (c ∷ cs) p = expected_left c p ∷ all_expected cs (place_after c p)

-- ---- what a walk answers: a refusal's number or 0, steps and their direction
pub record WalkAnswer : Type 0 where
  pub number : ℕ
  pub steps : ℕ
  pub way : Way

abbrev pub walk_answer : Holder → ℕ → WalkAnswer
walk_answer h d = record { number = walk_number h d; steps = walk_steps h d; way = walk_way h d }
