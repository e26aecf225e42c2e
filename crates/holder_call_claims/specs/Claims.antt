-- What is claimed of lists of C calls on a lent key holder: demand 3 for hosts in C. A term of each type stands in proofs/Claims.antt.
use Rattle.std.specs.Prelude.{true, false, ◌≡◌, List, [], ◌∷◌, ◌++◌, ℕ, ◌≤◌, ◌<◌, length, drop}
use Rattle.basics.specs.Bytes.{AreBytes}
use Rattle.basics.specs.Repeated.{repeated}
use Rattle.refusal.specs.Claims.{Ordered}
use Rattle.sizes.specs.Sizes.{key_length, turn}
use Rattle.holder.specs.declared.Holder.{Holder}
use Rattle.holder.specs.declared.Way.{Way}
use Rattle.holder.specs.declared.Way.TheVariants.{Forward}
use Rattle.holder.specs.Holder.{t_held, whole}
use Rattle.stage_calls.specs.StageCalls.{stage_call_tries, stage_call_number, stage_call_output}
use Rattle.holder_bytes.specs.HolderBytes.{holder_length, holder_of}
use Rattle.holder_calls.specs.HolderCalls.{make_call_tries, make_call_number, make_call_output, step_call_number, step_call_holder}
use Rattle.holder_walk_call.specs.WalkCall.{walk_code, walk_call_code, walk_call_holder}
use Rattle.holder_subkey_call.specs.SubkeyCall.{held_subkey_tries, held_subkey_number, held_subkey_output}
use Rattle.holder_call_claims.specs.HolderRoutes.{HolderCall, make, forward, back, walk, subkey, leaves, last_bytes, all_left}
use Rattle.holder_call_claims.specs.HolderRoutes.{t_at, bytes_at, start_of, last_place, all_expected, WalkAnswer, walk_answer}

-- 6t steps on end, all forward or all back, on lent bytes: none is refused, and the bytes after them are the ones before
pub record TurnsHome (lent : List ℕ) (way : Way) : Type 0 where
  pub taken : (m : ℕ) → step_call_number (repeated m (step_call_holder way) lent) ≡ 0
  pub home : repeated (turn (t_held (holder_of lent))) (step_call_holder way) lent ≡ lent

-- what holds of a list of C calls on the 26 bytes after gordzila_holder_make has written there
pub record HolderRoute (key lent : List ℕ) (cs : List HolderCall) : Type 0 where
  pub made : make_call_number key lent ≡ 0
  -- the place where the list ends is a stage of its key
  pub below : (last_place cs (start_of key)).number < turn (t_at (last_place cs (start_of key)))
  -- the 26 bytes after the list are those of a holder there
  pub ends : last_bytes cs (make_call_output key lent) ≡ bytes_at (last_place cs (start_of key))
  -- every call left what it has to at its place, in number, holder and output
  pub left : all_left cs (make_call_output key lent) ≡ all_expected cs (start_of key)
  -- and gordzila_stage gives the same 24 bytes, straight from the key and the stage's number
  pub given-straight : (out : List ℕ) → 24 ≤ length out → stage_call_number 24 (last_place cs (start_of key)).key (last_place cs (start_of key)).number out ≡ 0
  pub straight : (out : List ℕ) → 24 ≤ length out
      → stage_call_output (last_place cs (start_of key)).key (last_place cs (start_of key)).number out
      ≡ drop 2 (last_bytes cs (make_call_output key lent)) ++ drop 24 out
  -- a full turn from there, either way, brings the same 26 bytes
  pub turns : (way : Way) → TurnsHome (last_bytes cs (make_call_output key lent)) way

-- a host's keys are bytes
abbrev pub KeyIsBytes : HolderCall → Type 0
KeyIsBytes (make key) = AreBytes key
KeyIsBytes forward = Unit {0}
KeyIsBytes back = Unit {0}
KeyIsBytes (walk d) = Unit {0}
KeyIsBytes (subkey out) = Unit {0}

abbrev pub KeysAreBytes : List HolderCall → Type 0
KeysAreBytes [] = Unit {0}
KeysAreBytes (c ∷ cs) = KeyIsBytes c × KeysAreBytes cs

-- for every key of 12, 18 or 24 bytes, whatever stood in the 26 bytes, and every list of calls on them, refused ones included
unfoldable pub AnyHolderRoute : Type 0
AnyHolderRoute = (key : List ℕ) → AreBytes key → key_length (length key) ≡ true → (lent : List ℕ) → length lent ≡ holder_length
    → (cs : List HolderCall) → KeysAreBytes cs → HolderRoute key lent cs

-- each refusal of the C calls has its reason, and the first in order is given. A stage takes 24 bytes and its subkey 12; steps and walks of lent holders
-- try what those by value try (`routes` `HolderInOrder`)
pub record LentOrdered (key lent : List ℕ) (n : ℕ) (out : List ℕ) : Type 0 where
  pub stage : (room : ℕ) → Ordered (stage_call_tries room key n out)
  pub made : Ordered (make_call_tries key lent)
  pub subkey : Ordered (held_subkey_tries lent out)

unfoldable pub LentInOrder : Type 0
LentInOrder = (key lent : List ℕ) (n : ℕ) (out : List ℕ) → LentOrdered key lent n out

-- a full turn on any bytes that hold a whole holder, whether gordzila_holder_make wrote them or not
unfoldable pub BytesTurnHome : Type 0
BytesTurnHome = (lent : List ℕ) → AreBytes lent → whole (holder_of lent) ≡ true → (way : Way) → TurnsHome lent way

-- ---- refusals
-- every call but the making answers 24 and changes no byte
pub record LentRefused (lent : List ℕ) : Type 0 where
  pub steps : (way : Way) → (step_call_number lent ≡ 24) × (step_call_holder way lent ≡ lent)
  pub walks : (d : ℕ) → (walk_call_code lent d ≡ 24) × (walk_call_holder lent d ≡ lent)
  pub subkeys : (out : List ℕ) → (held_subkey_number lent out ≡ 24) × (held_subkey_output lent out ≡ out)

-- on bytes that hold no whole holder, and on any that are not 26
unfoldable pub BrokenLentIsRefused : Type 0
BrokenLentIsRefused = (lent : List ℕ) → whole (holder_of lent) ≡ false → LentRefused lent

unfoldable pub OtherLengthIsRefused : Type 0
OtherLengthIsRefused = (lent : List ℕ) → (length lent ≡ holder_length → ⊥) → LentRefused lent

-- the output lent to a call
abbrev pub output_lent : HolderCall → List ℕ
output_lent (make key) = []
output_lent forward = []
output_lent back = []
output_lent (walk d) = []
output_lent (subkey out) = out

-- a call that answers with a reason's number, which is above 0 and below 1,000, leaves every byte as it was, whatever was lent
unfoldable pub RefusedCallKeepsBytes : Type 0
RefusedCallKeepsBytes = (c : HolderCall) (lent : List ℕ) → 0 < (leaves c lent).number → (leaves c lent).number < 1000
    → ((leaves c lent).holder ≡ lent) × ((leaves c lent).output ≡ output_lent c)

-- ---- a walk's number
-- at most 12 steps, and none where it is refused
pub record OfWalk (a : WalkAnswer) : Type 0 where
  pub reason : a.number < 1000
  pub few : a.steps ≤ 12
  pub refused : 0 < a.number → (a.steps ≡ 0) × (a.way ≡ Forward)

unfoldable pub WalksAnswerSo : Type 0
WalksAnswerSo = (h : Holder) (d : ℕ) → OfWalk (walk_answer h d)

-- two different answers of walks never share a number
unfoldable pub CodesTellWalks : Type 0
CodesTellWalks = (a b : WalkAnswer) → OfWalk a → OfWalk b
    → walk_code a.number a.steps a.way ≡ walk_code b.number b.steps b.way → a ≡ b
