-- The run of a list of calls: the rows written so far, one more row, and what the run answers.
use mathlib.Core.Path.{◌≡◌, refl, sym, ap, ap₂, ◌∙◌}
use mathlib.Core.Logic.{inl, inr}
use mathlib.Core.Bool.{true}
use mathlib.Core.List.{List, [], ◌∷◌, ◌++◌, append_assoc, append-nil}
use Prim.Native.Nat.{ℕ, suc, ◌+◌, ◌-◌, ◌*◌, ◌≤◌, ◌<◌}
use native.Mathlib.Omega.{arith}
use native.Mathlib.Numerals.{add-one}
use lib.Dec.{lit<}
use lib.ListN.{length, get_or, take, drop, replicate, length-append, length-replicate}
use lib.Seq.{take-suc, take-length, length-take-le}
use borrow.Author.Tests.{lt-ltb, le-ltb, le-leb, lt-leb}
use Rattle.basics.proofs.Tests.{below_or_not}
use Rattle.refusal.proofs.Tries.{first_passes, first_holds, none-given, none-holds}
use Rattle.refusal.proofs.Answers.{refuses, put, answer-refused, answer-done}
use Rattle.basics.specs.Bytes.{AreBytes}
use Rattle.sizes.specs.Sizes.{key_length, t_of, turn}
use Rattle.stages.specs.Columns.{padded}
use Rattle.stages.specs.Stages.{stage}
use Rattle.sizes.proofs.Keys.{a_key}
use Rattle.stages.proofs.Keys.{key-length, length-stage}
use Rattle.holder.specs.declared.Holder.{Holder}
use Rattle.holder.specs.Holder.{holder_at, blank}
use Rattle.holder_from_key.specs.FromKey.{make_tries, make_number, made_holder}
use Rattle.routes.specs.Routes.{Call, forward, back, subkey, walk, Answer, held, reported, given, returned, answer, place_after, last_place, expected_answer}
use Rattle.routes.proofs.Routes.{last_below, returned-at, answer_at}
use Rattle.route_run.specs.declared.Logged.{Logged}
use Rattle.route_run.specs.Log.{call_of, calls_of, logged_of, row_of, rows_from, run_tries, run_number, run_holder, run_log}
use Rattle.block_bytes.proofs.Put.{placed}
use Rattle.route_run.proofs.Put.{placed_behind}

-- the row of a call at place s
row_at : List ℕ → Call → ℕ → List ℕ
row_at key c s = row_of (logged_of (expected_answer key c s) (holder_at key (place_after (t_of (length key)) c s)))

-- the place after the first i calls, and the log after them
unfoldable pub place_of : List ℕ → List ℕ → ℕ → ℕ
place_of key calls i = last_place (t_of (length key)) (calls_of (take i calls)) 0

unfoldable pub log_of : List ℕ → List ℕ → ℕ → List ℕ → List ℕ
log_of key calls i log = rows_from key (calls_of (take i calls)) 0 ++ drop (41 * i) log

-- ---- lists, from the other end
calls_more : (bs : List ℕ) (b : ℕ) → calls_of (bs ++ (b ∷ [])) ≡ calls_of bs ++ (call_of b ∷ [])
unfolding calls_of
calls_more [] b = refl
calls_more (x ∷ bs) b = ap {B = List Call} (λ l. call_of x ∷ l) (calls_more bs b)

length_calls : (bs : List ℕ) → length (calls_of bs) ≡ length bs
unfolding calls_of
length_calls [] = refl
length_calls (b ∷ bs) = ap suc (length_calls bs)

place_more : (t : ℕ) (cs : List Call) (c : Call) (s : ℕ) → last_place t (cs ++ (c ∷ [])) s ≡ place_after t c (last_place t cs s)
unfolding last_place
place_more t [] c s = refl
place_more t (x ∷ cs) c s = place_more t cs c (place_after t x s)

rows_more : (key : List ℕ) (cs : List Call) (c : Call) (s : ℕ)
    → rows_from key (cs ++ (c ∷ [])) s ≡ rows_from key cs s ++ row_at key c (last_place (t_of (length key)) cs s)
unfolding rows_from last_place row_at
rows_more key [] c s = append-nil _
rows_more key (x ∷ cs) c s =
    ap (λ (l : List ℕ). row_at key x s ++ l) (rows_more key cs c (place_after (t_of (length key)) x s))
    ∙ sym (append_assoc (row_at key x s) (rows_from key cs (place_after (t_of (length key)) x s)) _)

module _ (key : List ℕ) (bytes : AreBytes key) (right : key_length (length key) ≡ true) where
  -- ---- a row has 41 bytes
  held_bytes : (n : ℕ) → length (padded (stage (t_of (length key)) key n)) ≡ 24
  unfolding padded
  held_bytes n =
      let k = stage (t_of (length key)) key n in
      let l = length-stage (t_of (length key)) key (key-length key right) n in
      length-append k (replicate (24 - length k) 0)
      ∙ omega (arith, length-replicate {A = ℕ} (24 - length k) 0, key-length key right, (a_key (length key) right).most)

  subkey-bytes : (c : Call) (s : ℕ) (left : Holder) → length (logged_of (expected_answer key c s) left).subkey ≡ 12
  unfolding expected_answer logged_of
  subkey-bytes forward s left = refl
  subkey-bytes back s left = refl
  subkey-bytes subkey s left = refl
  subkey-bytes (walk d) s left = elim (below_or_not d (turn (t_of (length key)))) [
    | inl l ↦ rw (lt-ltb d (turn (t_of (length key))) l)
    | inr l ↦ rw (le-ltb d (turn (t_of (length key))) l)
  ]

  left-bytes : (a : Answer) (left : Holder) → (logged_of a left).holder ≡ left
  unfolding logged_of
  left-bytes (held n h) left = refl
  left-bytes (reported n h m w) left = refl
  left-bytes (given n k) left = refl

  logged_bytes : (c : Call) (s : ℕ) → length (logged_of (expected_answer key c s) (holder_at key (place_after (t_of (length key)) c s))).holder.bytes ≡ 24
  logged_bytes c s =
      let n = place_after (t_of (length key)) c s in
      ap (λ (h : Holder). length h.bytes) (left-bytes (expected_answer key c s) (holder_at key n)) ∙ held_bytes n

  row-bytes : (c : Call) (s : ℕ) → length (row_at key c s) ≡ 41
  unfolding row_at row_of
  row-bytes c s =
      let r = logged_of (expected_answer key c s) (holder_at key (place_after (t_of (length key)) c s)) in
      omega (arith, length-append r.subkey r.holder.bytes, subkey-bytes c s (holder_at key (place_after (t_of (length key)) c s)), logged_bytes c s)

  rows_bytes : (cs : List Call) (s : ℕ) → length (rows_from key cs s) ≡ 41 * length cs
  unfolding rows_from row_at
  rows_bytes [] s = refl
  rows_bytes (c ∷ cs) s =
      let r = rows_from key cs (place_after (t_of (length key)) c s) in
      length-append (row_at key c s) r ∙ row_sum c s (length r) (length cs) (rows_bytes cs (place_after (t_of (length key)) c s))
    where
      row_sum : (c : Call) (s m n : ℕ) → m ≡ 41 * n → length (row_at key c s) + m ≡ 41 * suc n
      row_sum c s m n e = omega (arith, row-bytes c s)

  -- ---- one call more
  pub logged_at : (c : Call) (n : ℕ) → n < turn (t_of (length key)) → (h : Holder) → h ≡ holder_at key n
      → (r : Logged) → r ≡ logged_of (answer c h) (returned c h)
      → r ≡ logged_of (expected_answer key c n) (holder_at key (place_after (t_of (length key)) c n))
  logged_at c n b h eh r er =
      er
      ∙ ap (λ (h : Holder). logged_of (answer c h) (returned c h)) eh
      ∙ ap₂ logged_of (answer_at key bytes right c n b) (returned-at key bytes right c n b)

  pub place_of_below : (calls : List ℕ) (i : ℕ) → place_of key calls i < turn (t_of (length key))
  unfolding place_of
  place_of_below calls i =
      last_below (t_of (length key)) (calls_of (take i calls)) 0 (omega (arith, (a_key (length key) right).sized.least))

  module _ (calls : List ℕ) (i : ℕ) (h : i < length calls) where
    calls_taken : calls_of (take (i + 1) calls) ≡ calls_of (take i calls) ++ (call_of (get_or calls i 0) ∷ [])
    calls_taken = ap (λ (m : ℕ). calls_of (take m calls)) (add-one i) ∙ ap calls_of (take-suc calls i 0 h) ∙ calls_more (take i calls) (get_or calls i 0)

    pub place-next : place_of key calls (i + 1) ≡ place_after (t_of (length key)) (call_of (get_or calls i 0)) (place_of key calls i)
    unfolding place_of
    place-next =
        ap (λ (cs : List Call). last_place (t_of (length key)) cs 0) calls_taken
        ∙ place_more (t_of (length key)) (calls_of (take i calls)) (call_of (get_or calls i 0)) 0

    -- what is asked of a row before it is written
    module _ (at : Holder) (r : Logged) (ea : at ≡ holder_at key (place_of key calls i))
        (er : r ≡ logged_of (answer (call_of (get_or calls i 0)) at) (returned (call_of (get_or calls i 0)) at)) where
      the_row : r ≡ logged_of (expected_answer key (call_of (get_or calls i 0)) (place_of key calls i))
          (holder_at key (place_after (t_of (length key)) (call_of (get_or calls i 0)) (place_of key calls i)))
      the_row = logged_at (call_of (get_or calls i 0)) (place_of key calls i) (place_of_below calls i) at ea r er

      pub row_fits : (length r.subkey ≡ 12) × (length r.holder.bytes ≡ 24)
      row_fits =
          let c = call_of (get_or calls i 0) in
          let n = place_of key calls i in (
            ap (λ (r : Logged). length r.subkey) the_row ∙ subkey-bytes c n (holder_at key (place_after (t_of (length key)) c n)),
            ap (λ (r : Logged). length r.holder.bytes) the_row ∙ logged_bytes c n,
          )

      pub holder-next : r.holder ≡ holder_at key (place_of key calls (i + 1))
      holder-next =
          ap (λ (r : Logged). r.holder) the_row
          ∙ left-bytes (expected_answer key (call_of (get_or calls i 0)) (place_of key calls i)) _
          ∙ ap (holder_at key) (sym place-next)

      pub log_next : (log₀ log : List ℕ) → i ≤ length calls → log ≡ log_of key calls i log₀
          → take (41 * i) log ++ (row_of r ++ drop (41 * i + 41) log) ≡ log_of key calls (i + 1) log₀
      unfolding log_of placed place_of row_at
      log_next log₀ log l e =
          let c = call_of (get_or calls i 0) in
          let p = rows_from key (calls_of (take i calls)) 0 in
          let b = row_at key c (place_of key calls i) in
          let n : 41 * i + 41 ≡ 41 * (i + 1) = omega arith in
          let lp : length p ≡ 41 * i =
          rows_bytes (calls_of (take i calls)) 0 ∙ ap (λ (m : ℕ). 41 * m) (length_calls (take i calls) ∙ length-take-le i calls l) in
          ap₂ (λ (x : List ℕ) (y : List ℕ). take (41 * i) x ++ (y ++ drop (41 * i + 41) x)) e (ap row_of the_row)
          ∙ ap (λ (m : ℕ). take (41 * i) (log_of key calls i log₀) ++ (b ++ drop (41 * i + m) (log_of key calls i log₀)))
          (sym (row-bytes c (place_of key calls i)))
          ∙ placed_behind (41 * i) p b log₀ lp
          ∙ ap₂ (λ (x : List ℕ) (m : ℕ). x ++ drop m log₀)
          (sym (ap (λ (cs : List Call). rows_from key cs 0) calls_taken ∙ rows_more key (calls_of (take i calls)) c 0))
          (ap (λ (m : ℕ). 41 * i + m) (row-bytes c (place_of key calls i)) ∙ n)

-- ---- what the run answers
pub made-right : (key : List ℕ) → make_number key ≡ 0 → key_length (length key) ≡ true
made-right key e = (none-holds (make_tries key) (lit< tt, tt) e).0

pub made_at : (key : List ℕ) → key_length (length key) ≡ true → made_holder key ≡ holder_at key 0
unfolding made_holder
made_at key right = sym (answer-done (make_tries key) (holder_at key 0) blank (first_passes _ [] right ∙ none-given [] tt))

module _ (key calls log : List ℕ) where
  pub run_no_room : key_length (length key) ≡ true → length log < 41 * length calls
      → (4 ≡ run_number key calls log) × ((made_holder key ≡ run_holder key calls log) × (log ≡ run_log key calls log))
  unfolding run_holder run_log
  run_no_room k l =
      let e = first_passes _ _ k ∙ first_holds _ [] (lt-leb (41 * length calls) (length log) l) in
      let tries = run_tries key calls log in (
        sym e,
        (answer-refused tries 4 _ (made_holder key) (omega arith) e, (refuses tries 4 (rows_from key (calls_of calls) 0) log (omega arith) e).1),
      )

  pub run_done : (bytes : AreBytes key) (right : key_length (length key) ≡ true) → 41 * length calls ≤ length log
      → (0 ≡ run_number key calls log)
      × ((holder_at key (place_of key calls (length calls)) ≡ run_holder key calls log) × (log_of key calls (length calls) log ≡ run_log key calls log))
  unfolding run_holder run_log place_of log_of
  run_done bytes right l =
      let e = first_passes _ _ right ∙ first_passes _ [] (le-leb (41 * length calls) (length log) l) ∙ none-given [] tt in
      let rows = rows_from key (calls_of calls) 0 in
      let n : length rows ≡ 41 * length calls = rows_bytes key bytes right (calls_of calls) 0 ∙ ap (λ (m : ℕ). 41 * m) (length_calls calls) in
      let t = take-length calls in (
        sym e,
        (
          ap (λ (c : List ℕ). holder_at key (last_place (t_of (length key)) (calls_of c) 0)) t ∙ answer-done (run_tries key calls log) _ (made_holder key) e,
          ap₂ (λ (c : List ℕ) (m : ℕ). rows_from key (calls_of c) 0 ++ drop m log) t (sym n) ∙ put (run_number key calls log) rows log e,
        ),
      )

-- ---- the run so far: i calls of the list are made and logged
pub record Running (key calls log₀ log : List ℕ) (at : Holder) (i : ℕ) : Type 0 where
  pub bytes : AreBytes key
  pub right : key_length (length key) ≡ true
  pub room : 41 * length calls ≤ length log₀
  pub same : length log ≡ length log₀
  pub most : i ≤ length calls
  pub holder : at ≡ holder_at key (place_of key calls i)
  pub logged : log ≡ log_of key calls i log₀

pub run_begins : (key calls log : List ℕ) (at : Holder) → AreBytes key → key_length (length key) ≡ true → 41 * length calls ≤ length log
    → at ≡ made_holder key → Running key calls log log at 0
unfolding place_of log_of last_place rows_from calls_of
run_begins key calls log at bytes right room e =
    record { bytes = bytes; right = right; room = room; same = refl; most = omega arith; holder = e ∙ made_at key right; logged = refl }

module _ (key calls log₀ log : List ℕ) (at : Holder) (i : ℕ) (s : Running key calls log₀ log at i) where
  pub run_ends : length calls ≤ i
      → (0 ≡ run_number key calls log₀) × ((at ≡ run_holder key calls log₀) × (log ≡ run_log key calls log₀))
  run_ends l =
      let e : i ≡ length calls = omega (arith, s.most) in
      let r = run_done key calls log₀ s.bytes s.right s.room in (
        r.0,
        (
          s.holder ∙ ap (λ (i : ℕ). holder_at key (place_of key calls i)) e ∙ r.1.0,
          s.logged ∙ ap (λ (i : ℕ). log_of key calls i log₀) e ∙ r.1.1,
        ),
      )

  module _ (t : i < length calls) (r : Logged)
      (er : r ≡ logged_of (answer (call_of (get_or calls i 0)) at) (returned (call_of (get_or calls i 0)) at)) where
    pub run_fits : (length r.subkey ≡ 12) × (length r.holder.bytes ≡ 24)
    run_fits = row_fits key s.bytes s.right calls i t at r s.holder er

    pub run_goes_on : (next : List ℕ) → length next ≡ length log
        → next ≡ take (41 * i) log ++ (row_of r ++ drop (41 * i + 41) log)
        → Running key calls log₀ next r.holder (i + 1)
    run_goes_on next l e = record {
      bytes = s.bytes;
      right = s.right;
      room = s.room;
      same = l ∙ s.same;
      most = omega arith;
      holder = holder-next key s.bytes s.right calls i t at r s.holder er;
      logged = e ∙ log_next key s.bytes s.right calls i t at r s.holder er log₀ log s.most s.logged;
    }
