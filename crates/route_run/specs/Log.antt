-- Lists of calls on a key holder and their answers, in bytes.
use Rattle.std.specs.Prelude.{cond, List, [], ◌∷◌, ◌++◌, ℕ, ◌*◌, ◌%◌, eqb, leb, length, Result, Ok, Err}
use Rattle.refusal.specs.declared.Reason.{Reason}
use Rattle.refusal.specs.Reasons.{reason_number}
use Rattle.refusal.specs.Tries.{Try, ◌unless◌, first, answered, written}
use Rattle.sizes.specs.Sizes.{key_length, t_of}
use Rattle.holder.specs.declared.Holder.{Holder}
use Rattle.holder.specs.declared.Way.{Way}
use Rattle.holder.specs.declared.Way.TheVariants.{Forward, Back}
use Rattle.holder.specs.Holder.{holder_at}
use Rattle.holder_from_key.specs.FromKey.{made_holder}
use Rattle.holder_steps.specs.Steps.{no_subkey}
use Rattle.routes.specs.Routes.{Call, forward, back, subkey, walk, Answer, held, reported, given, place_after, last_place, expected_answer}
use Rattle.route_run.specs.declared.Logged.{Logged}

-- a byte as a call: 253 a step forward, 254 a step back, 255 a request for the subkey, and any other a walk to that stage
unfoldable pub call_of : ℕ → Call
call_of b = cond (eqb b 253) forward (cond (eqb b 254) back (cond (eqb b 255) subkey (walk b)))

unfoldable pub calls_of : List ℕ → List Call
calls_of [] = []
calls_of (b ∷ bs) = call_of b ∷ calls_of bs

-- an answer, with the holder that the call returned or left: what the answer lacks is 0, forward and zeros
unfoldable pub logged_of : Answer → Holder → Logged
logged_of (held n h) left = record { number = n; steps = 0; way = Forward; subkey = no_subkey; holder = left }
logged_of (reported n h steps way) left = record { number = n; steps = steps; way = way; subkey = no_subkey; holder = left }
logged_of (given n k) left = record { number = n; steps = 0; way = Forward; subkey = k; holder = left }

-- what is logged of a call on a holder that answers with a row or is refused
abbrev pub row_or : Holder → Result Logged Reason → Logged
row_or h (Ok r) = r
row_or h (Err e) = record { number = reason_number e; steps = 0; way = Forward; subkey = no_subkey; holder = h }

abbrev pub way_number : Way → ℕ
way_number Forward = 0
way_number Back = 1

-- a row of the log, 41 bytes: refusal number, steps, direction, the holder's length and number, the subkey, the holder's bytes. In
-- a run all numbers are below 256
unfoldable pub row_of : Logged → List ℕ
row_of r =
    (r.number % 256 ∷ r.steps % 256 ∷ way_number r.way ∷ r.holder.length % 256 ∷ r.holder.number % 256 ∷ [])
    ++ (r.subkey ++ r.holder.bytes)

-- the rows that a list of calls on a holder of a key has to leave, the first at place s
unfoldable pub rows_from : List ℕ → List Call → ℕ → List ℕ
rows_from key [] s = []
rows_from key (c ∷ cs) s =
    row_of (logged_of (expected_answer key c s) (holder_at key (place_after (t_of (length key)) c s)))
    ++ rows_from key cs (place_after (t_of (length key)) c s)

-- ---- the run of a list of calls: it needs a key, and a log with room for the rows
abbrev pub run_tries : List ℕ → List ℕ → List ℕ → List Try
run_tries key calls log = (1 unless key_length (length key)) ∷ (4 unless leb (41 * length calls) (length log)) ∷ []

abbrev pub run_number : List ℕ → List ℕ → List ℕ → ℕ
run_number key calls log = first (run_tries key calls log)

-- the holder at the place where the list ends; where it is not run, the holder as it was made
unfoldable pub run_holder : List ℕ → List ℕ → List ℕ → Holder
run_holder key calls log = answered (run_number key calls log) (holder_at key (last_place (t_of (length key)) (calls_of calls) 0)) (made_holder key)

unfoldable pub run_log : List ℕ → List ℕ → List ℕ → List ℕ
run_log key calls log = written (run_number key calls log) (rows_from key (calls_of calls) 0) log
