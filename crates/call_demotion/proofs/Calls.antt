-- From what is claimed of checks on a roll by value to queues, and to the C calls on a roll's bytes.
use mathlib.Core.Path.{◌≡◌, refl, sym, ap, ap₂, ◌∙◌, subst, subst⁻¹}
use mathlib.Core.Bool.{Bool, ◌&&◌}
use mathlib.Core.List.{List, [], ◌∷◌, ◌++◌}
use Prim.Native.Nat.{ℕ, ◌+◌, ◌*◌, ◌≤◌}
use native.Mathlib.Omega.{arith}
use lib.Dec.{eqb, lit<}
use lib.ListN.{length, get_or}
use borrow.Author.Tests.{eqb-true, eq-eqb}
use Rattle.basics.specs.Bytes.{AreBytes}
use Rattle.basics.proofs.Tests.{and_first}
use Rattle.refusal.specs.Tries.{◌unless◌, first, written, answered}
use Rattle.refusal.proofs.Tries.{none-given}
use Rattle.refusal.proofs.Ladder.{all_pass}
use Rattle.refusal.proofs.Given.{passed-before}
use Rattle.settings.specs.Settings.{settings_tries}
use Rattle.rights.proofs.Rights.{right-least}
use Rattle.roll.specs.declared.Roll.{Roll}
use Rattle.roll.specs.Roll.{count_of, figure_of, entry_of}
use Rattle.roll_changes.specs.Changes.{change_tries, change_number, changed_roll}
use Rattle.roll_bytes.specs.RollBytes.{roll_length, roll_of, roll_tries}
use Rattle.histories.specs.Histories.{Change, change, changed, roll_after, Withdrawn, Raised, Spares, IsRoll}
use Rattle.histories.proofs.Calls.{after_other}
use Rattle.histories.proofs.Counts.{after_grows, right_moves_none}
use Rattle.key_lists.specs.declared.Direction.TheVariants.{Enciphering}
use Rattle.cipher.specs.Cipher.{cipher_block}
use Rattle.grant.specs.Grants.{plain_grant, contractor_in}
use Rattle.issuing.specs.Issuing.{wanted_tries, issue_tries, issue_number, issued_grant}
use Rattle.judging.specs.Judging.{input_tries}
use Rattle.judging.proofs.Passed.{input_passed}
use Rattle.checking.specs.Checking.{opened_grant, check_number}
use Rattle.revocation.specs.Claims.{SameCheck}
use Rattle.demotion.specs.Claims.{NoOverwriting, Above, IssueAbove}
use Rattle.demotion.proofs.Demoted.{same-issue, never_overwrites, above, same_count, same_reading, raises}
use Rattle.demotion.proofs.Demoted.{twenty_five, is-above, issue_twenty_five, issue_is_above}
use Rattle.check_call.specs.CheckCall.{call_tries, call_code}
use Rattle.issue_call.specs.IssueCall.{issue_call_tries, issue_call_number, issue_call_output}
use Rattle.roll_calls.specs.RollCalls.{change_call_tries, change_call_number, change_call_roll}
use Rattle.call_claims.specs.CallHistories.{called, bytes_after, CallWithdrawn, CallRaised}
use Rattle.call_claims.specs.Claims.{Holds}
use Rattle.call_claims.proofs.Opens.{refused_with, tried, call_number, is-check, call_passed, call_refuses, call_refused}
use Rattle.call_claims.proofs.Stored.{is_roll, passes_roll, call_holds, after_holds, withdrawn-called, raised-called}
use Rattle.queue_claims.proofs.Bytes.{answers}
use Rattle.queue_claims.proofs.Calls.{same_queue, roll_long}
use Rattle.call_demotion.specs.Claims.{QueuesNoOverwriting, CallNoOverwriting, CallReadsAs, CallRaises}

-- ---- counts and others
pub counts_grow : (roll : List ℕ) → AreBytes roll → length roll ≡ roll_length
    → (hs : List Change) (c : ℕ) → count_of (roll_of roll) c ≤ count_of (roll_of (bytes_after hs roll)) c
counts_grow roll small long hs c =
    subst⁻¹ (λ (r : Roll). count_of (roll_of roll) c ≤ count_of r c) (after_holds hs roll small long).read (after_grows hs (roll_of roll) c)

pub same_counts : (roll : List ℕ) → AreBytes roll → length roll ≡ roll_length
    → (c right : ℕ) → (roll_of (change_call_roll roll c right)).counts ≡ (roll_of roll).counts
unfolding called changed
same_counts roll small long c right =
    ap (λ (r : Roll). r.counts) (call_holds (change c right) roll small long).read ∙ right_moves_none (roll_of roll) c right

pub others_stay : (roll : List ℕ) → AreBytes roll → length roll ≡ roll_length
    → (hs : List Change) (c : ℕ) → Spares c hs → entry_of (roll_of (bytes_after hs roll)) c ≡ entry_of (roll_of roll) c
others_stay roll small long hs c s = ap (λ (r : Roll). entry_of r c) (after_holds hs roll small long).read ∙ after_other hs (roll_of roll) c s

-- ---- a queue
pub queues : (roll : Roll) (c : ℕ) → NoOverwriting roll c → QueuesNoOverwriting roll c
queues roll c none key rounds grants block out e i h named z =
    none.opens key rounds _ block named (sym ((answers key rounds roll grants block 2 out e).each i h) ∙ z)

-- ---- a roll's bytes
pub on_bytes : (roll : List ℕ) (c : ℕ) → NoOverwriting (roll_of roll) c → CallNoOverwriting roll c
on_bytes roll c none = record {
  refused = λ key rounds grant block named. call_refuses key rounds roll grant block 2 (none.opens key rounds grant block named);
  queued = λ key rounds grants block out e i h named z.
      let s = same_queue key rounds roll grants block 2 out (roll_long key rounds roll grants block 2 out e) in
      queues (roll_of roll) c none key rounds grants block out (sym s.number ∙ e) i h named (sym (ap (λ (l : List ℕ). get_or l i 0) s.output) ∙ z);
  issued = λ key rounds block out e.
      let p = all_pass (issue_call_tries key rounds roll c block 2 out) refl e in
      none.issued key rounds block out (none-given (issue_tries key rounds (roll_of roll) c block 2 out) (p.0, (p.1.0, p.1.1.1)));
}

-- two rolls' bytes on which a check is the same
same_code : (key : List ℕ) (rounds : ℕ) (roll other grant : List ℕ) (block right : ℕ) → length roll ≡ roll_length → length other ≡ roll_length
    → SameCheck key rounds (roll_of roll) (roll_of other) grant block right
    → call_code key rounds other grant block right ≡ call_code key rounds roll grant block right
same_code key rounds roll other grant block right l m s =
    is-check key rounds other grant block right m
    ∙ (λ j. answered (s.number j) (1000 * s.answers-right j + s.answers-contractor j) (s.number j))
    ∙ sym (is-check key rounds roll grant block right l)

-- on a roll's bytes an issue has the number of one on the roll that is read
pub issue-read : (key : List ℕ) (rounds : ℕ) (roll : List ℕ) (c block right : ℕ) (out : List ℕ) → length roll ≡ roll_length
    → issue_call_number key rounds roll c block right out ≡ issue_number key rounds (roll_of roll) c block right out
unfolding first
issue-read key rounds roll c block right out l =
    ap (λ (b : Bool). first ((settings_tries (length key) rounds ++ ((3 unless b)
    ∷ [])) ++ wanted_tries (length out) c block right (entry_of (roll_of roll) c)))
    (eq-eqb (length roll) roll_length l)

-- an issue for reading, where the contractor's count is the same
same_number : (key : List ℕ) (rounds : ℕ) (roll other : List ℕ) (c block : ℕ) (out : List ℕ)
    → length roll ≡ roll_length → length other ≡ roll_length → count_of (roll_of other) c ≡ count_of (roll_of roll) c
    → issue_call_number key rounds other c block 1 out ≡ issue_call_number key rounds roll c block 1 out
same_number key rounds roll other c block out l m e =
    issue-read key rounds other c block 1 out m ∙ same-issue key rounds (roll_of roll) (roll_of other) c block out e
    ∙ sym (issue-read key rounds roll c block 1 out l)

same_bytes_lem : (key : List ℕ) (rounds : ℕ) (roll other : List ℕ) (c block : ℕ) (out : List ℕ)
    → length roll ≡ roll_length → length other ≡ roll_length → count_of (roll_of other) c ≡ count_of (roll_of roll) c
    → issue_call_output key rounds other c block 1 out ≡ issue_call_output key rounds roll c block 1 out
unfolding issue_call_output issued_grant
same_bytes_lem key rounds roll other c block out l m e =
    ap₂ (λ (n k : ℕ). written n (cipher_block Enciphering key rounds (plain_grant c k block 1)) out) (same_number key rounds roll other c block out l m e) e

-- ---- a demotion that is accepted
module _ (roll : List ℕ) (small : AreBytes roll) (c : ℕ) (accepted : change_call_number roll c 1 ≡ 0) where
  long : length roll ≡ roll_length
  long = eqb-true _ _ (all_pass (change_call_tries roll c 1) refl accepted).0

  on_roll : change_number (roll_of roll) c 1 ≡ 0
  on_roll = sym (passes_roll roll long (change_tries c 1 (count_of (roll_of roll) c))) ∙ accepted

  is : IsRoll (roll_of roll)
  is = is_roll roll small long

  -- the bytes after it hold the roll after it, and so do those after more calls
  low : Holds (change_call_roll roll c 1) (changed_roll (roll_of roll) c 1)
  unfolding called changed
  low = call_holds (change c 1) roll small long

  after : (hs : List Change) → Holds (bytes_after hs (change_call_roll roll c 1)) (roll_after hs (changed_roll (roll_of roll) c 1))
  after hs =
      let h = after_holds hs (change_call_roll roll c 1) low.small low.long in
      record { small = h.small; long = h.long; read = h.read ∙ ap (roll_after hs) low.read }

  -- where no call on the bytes raises the contractor, none on the roll does
  stays-low : (hs : List Change) → (CallRaised c hs (change_call_roll roll c 1) → ⊥) → Raised c hs (changed_roll (roll_of roll) c 1) → ⊥
  stays-low hs n w = n (raised-called (change_call_roll roll c 1) low.small low.long (subst⁻¹ (λ (r : Roll). Raised c hs r) low.read w))

  pub call_never_overwrites : (hs : List Change) → (CallRaised c hs (change_call_roll roll c 1) → ⊥)
      → CallNoOverwriting (bytes_after hs (change_call_roll roll c 1)) c
  call_never_overwrites hs n =
      on_bytes (bytes_after hs (change_call_roll roll c 1)) c
      (subst⁻¹ (λ (r : Roll). NoOverwriting r c) (after hs).read (never_overwrites (roll_of roll) is c on_roll hs (stays-low hs n)))

  -- a check on the roll after some calls is one on the bytes after them
  as_read : (key : List ℕ) (rounds : ℕ) (grant : List ℕ) (block right : ℕ) (bytes : List ℕ) (other : Roll) → Holds bytes other
      → SameCheck key rounds (roll_of roll) other grant block right
      → call_code key rounds bytes grant block right ≡ call_code key rounds roll grant block right
  as_read key rounds grant block right bytes other h s =
      same_code key rounds roll bytes grant block right long h.long
      (subst⁻¹ (λ (r : Roll). SameCheck key rounds (roll_of roll) r grant block right) h.read s)

  -- calls in which the contractor is not withdrawn
  module _ (hs : List Change) (n : CallWithdrawn c hs (change_call_roll roll c 1) → ⊥) where
    stays_in : Withdrawn c hs (changed_roll (roll_of roll) c 1) → ⊥
    stays_in w = n (withdrawn-called (change_call_roll roll c 1) low.small low.long (subst⁻¹ (λ (r : Roll). Withdrawn c hs r) low.read w))

    abbrev bytes : List ℕ
    bytes = bytes_after hs (change_call_roll roll c 1)

    abbrev other : Roll
    other = roll_after hs (changed_roll (roll_of roll) c 1)

    pub call_above : (CallRaised c hs (change_call_roll roll c 1) → ⊥) → (key : List ℕ) (rounds : ℕ) (grant : List ℕ) (block : ℕ)
        → contractor_in (opened_grant key rounds grant) ≡ c
        → 1000 ≤ call_code key rounds roll grant block 2 → call_code key rounds bytes grant block 2 ≡ 25
    call_above m key rounds grant block named h =
        let z = (call_passed key rounds roll grant block 2 h).1 in
        let e = above (roll_of roll) is c on_roll hs stays_in (stays-low hs m) key rounds grant block named z in
        call_refused key rounds bytes grant block 2 (after hs).long 25 (lit< tt)
        (ap (λ (r : Roll). check_number key rounds r grant block 2) (after hs).read ∙ e)

    pub call_reads : CallReadsAs roll bytes c
    call_reads =
        let count = same_count (roll_of roll) is c on_roll hs stays_in in
        record {
          checks = λ key rounds grant block named.
              as_read key rounds grant block 1 bytes other (after hs)
              (same_reading key rounds (roll_of roll) other grant block (subst (λ (d : ℕ). count_of other d ≡ count_of (roll_of roll) d) (sym named) count));
          issues = λ key rounds block out.
              let e = ap (λ (r : Roll). count_of r c) (after hs).read ∙ count in
              let l = (after hs).long in
              (same_number key rounds roll bytes c block out long l e, same_bytes_lem key rounds roll bytes c block out long l e);
        }

    -- and once raised
    raised-holds : Holds (change_call_roll bytes c 2) (changed_roll other c 2)
    unfolding called changed
    raised-holds =
        let h = call_holds (change c 2) bytes (after hs).small (after hs).long in
        record { small = h.small; long = h.long; read = h.read ∙ ap (λ (r : Roll). changed_roll r c 2) (after hs).read }

    pub call_raises : figure_of (roll_of roll) c ≡ 2 → CallRaises roll bytes c
    call_raises two =
        let r = raises (roll_of roll) is c on_roll hs stays_in two in
        record {
          number = passes_roll bytes (after hs).long (change_tries c 2 (count_of (roll_of bytes) c))
              ∙ ap (λ (r : Roll). change_number r c 2) (after hs).read ∙ r.number;
          checks = λ key rounds grant block right named.
              as_read key rounds grant block right (change_call_roll bytes c 2) (changed_roll other c 2) raised-holds
              (r.checks key rounds grant block right named);
        }

-- ---- when 25 is answered
module _ (key : List ℕ) (rounds : ℕ) (roll grant : List ℕ) (block right : ℕ) where
  pub call_twenty_five : call_code key rounds roll grant block right ≡ 25
      → (length roll ≡ roll_length) × Above key rounds (roll_of roll) grant block right
  unfolding call_code
  call_twenty_five e =
      let ts = call_tries key rounds roll grant block right in
      let x = 1000 * right + contractor_in (opened_grant key rounds grant) in
      let n = refused_with (first ts) x 25 (λ z. omega (arith, right-least right (tried key rounds roll grant block right z).0.asked)) e in
      let lengths = eqb (length roll) roll_length && eqb (length grant) 12 in
      let past = passed-before 25 (input_tries (length key) rounds lengths block right) _ refl n in
      let long = (input_passed (length key) rounds lengths block right [] past).0.long in
      let l = eqb-true _ _ (and_first (eqb (length roll) roll_length) (eqb (length grant) 12) long) in
      (l, twenty_five key rounds (roll_of roll) grant block right (sym (call_number key rounds roll grant block right l) ∙ n))

  pub call_is_above : length roll ≡ roll_length → Above key rounds (roll_of roll) grant block right → call_code key rounds roll grant block right ≡ 25
  call_is_above l a = call_refused key rounds roll grant block right l 25 (lit< tt) (is-above key rounds (roll_of roll) grant block right a)

module _ (key : List ℕ) (rounds : ℕ) (roll : List ℕ) (c block right : ℕ) (out : List ℕ) where
  pub call_issue_twenty_five : issue_call_number key rounds roll c block right out ≡ 25
      → (length roll ≡ roll_length) × IssueAbove key rounds (roll_of roll) c block right out
  call_issue_twenty_five e =
      let past = passed-before 25 (settings_tries (length key) rounds ++ roll_tries (length roll)) _ refl e in
      let l = eqb-true (length roll) roll_length past.1.1.0 in
      (l, issue_twenty_five key rounds (roll_of roll) c block right out (sym (issue-read key rounds roll c block right out l) ∙ e))

  pub call_issue_is_above : length roll ≡ roll_length → IssueAbove key rounds (roll_of roll) c block right out
      → issue_call_number key rounds roll c block right out ≡ 25
  call_issue_is_above l a = issue-read key rounds roll c block right out l ∙ issue_is_above key rounds (roll_of roll) c block right out a
