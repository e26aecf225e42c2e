-- Checks and issues on rolls on which a contractor has not the right to overwrite.
use mathlib.Core.Path.{◌≡◌, refl, sym, ap, ap₂, ◌∙◌, subst}
use mathlib.Core.Bool.{Bool, true, false}
use mathlib.Core.List.{List, [], ◌∷◌, ◌++◌}
use Prim.Native.Nat.{ℕ}
use native.Mathlib.Omega.{arith}
use lib.Dec.{eqb, leb, lit<}
use lib.ListN.{length}
use Rattle.refusal.specs.Tries.{Try, ◌unless◌, first, written, NoneHolds}
use Rattle.refusal.proofs.Tries.{first_then, first_holds, none-given}
use Rattle.refusal.proofs.Ladder.{all_pass}
use Rattle.refusal.proofs.Given.{given_by}
use Rattle.refusal.proofs.Answers.{answer-done}
use Rattle.size_blocks.specs.SizeBlocks.{is_size_block}
use Rattle.rights.specs.Rights.{is_right, covers, within_highest}
use Rattle.rights.proofs.Rights.{covers_overwriting, within_reading, within_overwriting, above-highest}
use Rattle.roll.specs.declared.Roll.{Roll}
use Rattle.roll.specs.declared.Entry.{Entry}
use Rattle.roll.specs.Roll.{is_contractor, count_of, figure_of, entry_of, in_standing}
use Rattle.roll_changes.specs.Changes.{change_tries, changed_entry, change_number, changed_roll}
use Rattle.histories.specs.Histories.{Change, change, changed, roll_after, Withdrawn, Raised, IsRoll}
use Rattle.histories.proofs.Calls.{changing, changed-own, changed_roll_lem, after_roll}
use Rattle.histories.proofs.Demoted.{stays, stays-low}
use Rattle.grant.specs.Grants.{plain_grant, contractor_in, count_in, right_in, is_grant}
use Rattle.settings.specs.Settings.{settings_tries}
use Rattle.key_lists.specs.declared.Direction.TheVariants.{Enciphering}
use Rattle.cipher.specs.Cipher.{cipher_block}
use Rattle.issuing.specs.Issuing.{issue_tries, issue_number, issued_grant, issue_output}
use Rattle.issuing.proofs.Passed.{WantedPassed, wanted_passed, wanted_passes}
use Rattle.judging.specs.Judging.{input_tries, asked_tries}
use Rattle.judging.proofs.Passed.{input_passed, input_passes}
use Rattle.checking.specs.Checking.{opened_grant, check_tries, check_number, check_contractor}
use Rattle.revocation.specs.Claims.{Accepted, SameCheck, OverwritingOpensReading, OnlyOverwritingOverwrites}
use Rattle.revocation.proofs.Checks.{passed, not_refused, reads_too}
use Rattle.revocation.proofs.Others.{same-answers, same-entry}
use Rattle.revocation.proofs.Claims.{overwriting_opens_reading, only_overwriting_overwrites}
use Rattle.demotion.specs.Claims.{NoOverwriting, Raises, Above, IssueAbove}

-- what an issue passed that was not refused
wanted : (key : List ℕ) (rounds : ℕ) (roll : Roll) (c block right : ℕ) (out : List ℕ) → issue_number key rounds roll c block right out ≡ 0
    → NoneHolds (settings_tries (length key) rounds) × WantedPassed (length out) c block right (entry_of roll c)
wanted key rounds roll c block right out e =
    let h = all_pass (issue_tries key rounds roll c block right out) refl e in
    ((h.0, (h.1.0, tt)), wanted_passed (length out) c block right (entry_of roll c) h.1.1)

-- ---- a figure that is not 2
pub no_overwriting : (roll : Roll) (c : ℕ) → (figure_of roll c ≡ 2 → ⊥) → NoOverwriting roll c
no_overwriting roll c low = record {
  opens = λ key rounds grant block e z.
      let two = within_overwriting (figure_of roll (contractor_in (opened_grant key rounds grant))) (passed key rounds roll grant block 2 z).1.within in
      low (ap (figure_of roll) (sym e) ∙ two);
  issued = λ key rounds block out z.
      low (within_overwriting (figure_of roll c) (wanted key rounds roll c block 2 out z).1.within);
}

-- ---- reading
-- where two rolls have the same count for the grant's contractor, a check for reading answers the same: no figure is below reading
pub same_reading : (key : List ℕ) (rounds : ℕ) (roll other : Roll) (grant : List ℕ) (block : ℕ)
    → count_of other (contractor_in (opened_grant key rounds grant)) ≡ count_of roll (contractor_in (opened_grant key rounds grant))
    → SameCheck key rounds roll other grant block 1
same_reading key rounds roll other grant block e =
    let p = opened_grant key rounds grant in
    let c = contractor_in p in
    let number : ℕ → Bool → ℕ =
    λ n b. first (input_tries (length key) rounds (eqb (length grant) 12) block 1
    ++ ((8 unless is_grant p) ∷ (asked_tries p block 1
    ++ ((20 unless in_standing n) ∷ (23 unless eqb (count_in p) n) ∷ (25 unless b) ∷ [])))) in
    same-answers key rounds roll other grant block 1
    (ap₂ number e (within_reading (figure_of other c) ∙ sym (within_reading (figure_of roll c))))

-- and so does issuing
pub same-issue : (key : List ℕ) (rounds : ℕ) (roll other : Roll) (c block : ℕ) (out : List ℕ) → count_of other c ≡ count_of roll c
    → issue_number key rounds other c block 1 out ≡ issue_number key rounds roll c block 1 out
same-issue key rounds roll other c block out e =
    let number : ℕ → Bool → ℕ =
    λ n b. first (settings_tries (length key) rounds
    ++ ((4 unless leb 12 (length out)) ∷ (6 unless is_contractor c) ∷ (7 unless is_right 1) ∷ (14 unless is_size_block block)
    ∷ (20 unless in_standing n) ∷ (25 unless b) ∷ [])) in
    ap₂ number e (within_reading (figure_of other c) ∙ sym (within_reading (figure_of roll c)))

pub same-grant : (key : List ℕ) (rounds : ℕ) (roll other : Roll) (c block : ℕ) (out : List ℕ) → count_of other c ≡ count_of roll c
    → issue_output key rounds other c block 1 out ≡ issue_output key rounds roll c block 1 out
unfolding issue_output issued_grant
same-grant key rounds roll other c block out e =
    ap₂ (λ (n m : ℕ). written n (cipher_block Enciphering key rounds (plain_grant c m block 1)) out) (same-issue key rounds roll other c block out e) e

-- ---- accepted checks
-- the contractor who is answered is the one whom the grant names
pub named_by : (key : List ℕ) (rounds : ℕ) (roll : Roll) (grant : List ℕ) (block right c : ℕ) → Accepted key rounds roll grant block right c
    → contractor_in (opened_grant key rounds grant) ≡ c
unfolding check_contractor
named_by key rounds roll grant block right c a =
    answer-done (check_tries key rounds roll grant block right) (contractor_in (opened_grant key rounds grant)) 0 a.number ∙ a.answers-contractor

-- what was accepted on one roll is accepted on another where the check is the same
pub accepted_as : {key : List ℕ} {rounds : ℕ} {roll other : Roll} {grant : List ℕ} {block right c : ℕ}
    → SameCheck key rounds roll other grant block right → Accepted key rounds roll grant block right c → Accepted key rounds other grant block right c
accepted_as s a = record {
  number = s.number ∙ a.number;
  answers-contractor = s.answers-contractor ∙ a.answers-contractor;
  answers-right = s.answers-right ∙ a.answers-right;
}

-- ---- when 25 is given
not_within : (figure : ℕ) → (figure ≡ 2 → ⊥) → within_highest 2 figure ≡ false
not_within figure n = by (within_highest 2 figure) refl
  where
    by : (b : Bool) → within_highest 2 figure ≡ b → b ≡ false
    by true e = absurd (n (within_overwriting figure e))
    by false e = refl

module _ (key : List ℕ) (rounds : ℕ) (roll : Roll) (grant : List ℕ) (block right : ℕ) where
  p : List ℕ
  p = opened_grant key rounds grant

  -- all that is tried before it
  plain-before : List Try
  plain-before =
      (8 unless is_grant p) ∷ (asked_tries p block right
      ++ ((20 unless in_standing (count_of roll (contractor_in p))) ∷ (23 unless eqb (count_in p) (count_of roll (contractor_in p))) ∷ []))

  before : List Try
  before = input_tries (length key) rounds (eqb (length grant) 12) block right ++ plain-before

  pub twenty_five : check_number key rounds roll grant block right ≡ 25 → Above key rounds roll grant block right
  unfolding p plain-before before
  twenty_five e =
      let g = given_by 25 (lit< tt) (within_highest right (figure_of roll (contractor_in p))) [] refl before refl e in
      let h = input_passed (length key) rounds (eqb (length grant) 12) block right plain-before g.0 in
      let t = h.1 in
      let s = t.1.1.1 in
      let a = above-highest right (figure_of roll (contractor_in p)) h.0.asked g.1 in
      record {
        asked = a.0;
        overwrites = covers_overwriting (right_in p) (ap (covers (right_in p)) (sym a.0) ∙ t.1.1.0);
        reads = reads_too key rounds roll grant block right h.0 t.0 t.1.0 s.0 s.1.0;
        low = a.1;
      }

  pub is-above : Above key rounds roll grant block right → check_number key rounds roll grant block right ≡ 25
  unfolding p plain-before before covers
  is-above a =
      let h = passed key rounds roll grant block 1 a.reads in
      let i = h.0 in
      let t = h.1 in
      let covered = ap₂ covers a.overwrites a.asked in
      first_then before ((25 unless within_highest right (figure_of roll (contractor_in p))) ∷ [])
      (input_passes (length key) rounds (eqb (length grant) 12) block right plain-before
      record { key-length = i.key-length; round-count = i.round-count; long = i.long; asked = ap is_right a.asked; some_block = i.some_block }
      (t.whole, (t.same_block, (covered, (t.stands, (t.same_count, tt))))))
      ∙ first_holds _ _ (ap (λ (r : ℕ). within_highest r (figure_of roll (contractor_in p))) a.asked ∙ not_within _ a.low)

-- and by an issue
module _ (key : List ℕ) (rounds : ℕ) (roll : Roll) (c block right : ℕ) (out : List ℕ) where
  before-issue : List Try
  before-issue =
      settings_tries (length key) rounds
      ++ ((4 unless leb 12 (length out)) ∷ (6 unless is_contractor c) ∷ (7 unless is_right right) ∷ (14 unless is_size_block block)
      ∷ (20 unless in_standing (count_of roll c)) ∷ [])

  pub issue_twenty_five : issue_number key rounds roll c block right out ≡ 25 → IssueAbove key rounds roll c block right out
  unfolding before-issue
  issue_twenty_five e =
      let g = given_by 25 (lit< tt) (within_highest right (figure_of roll c)) [] refl before-issue refl e in
      let h = g.0 in
      let t = h.1.1 in
      let s = t.1.1.1 in
      let a = above-highest right (figure_of roll c) t.1.1.0 g.1 in
      record {
        asked = a.0;
        reads = none-given (issue_tries key rounds roll c block 1 out) (
          h.0,
          (
            h.1.0,
            wanted_passes (length out) c block 1 (entry_of roll c)
                record { fits = t.0; known = t.1.0; asked = refl; some_block = s.0; stands = s.1.0; within = within_reading _ },
          ),
        );
        low = a.1;
      }

  pub issue_is_above : IssueAbove key rounds roll c block right out → issue_number key rounds roll c block right out ≡ 25
  unfolding before-issue
  issue_is_above a =
      let h = wanted key rounds roll c block 1 out a.reads in
      let w = h.1 in
      first_then before-issue ((25 unless within_highest right (figure_of roll c)) ∷ [])
      (h.0.0, (h.0.1.0, (w.fits, (w.known, (ap is_right a.asked, (w.some_block, (w.stands, tt)))))))
      ∙ first_holds _ _ (ap (λ (r : ℕ). within_highest r (figure_of roll c)) a.asked ∙ not_within _ a.low)

-- ---- a demotion that is accepted
module _ (roll : Roll) (is : IsRoll roll) (c : ℕ) (accepted : change_number roll c 1 ≡ 0) where
  -- the roll after it
  low_roll : IsRoll (changed_roll roll c 1)
  unfolding changed
  low_roll = changed_roll_lem (change c 1) roll is

  low-entry : entry_of (changed_roll roll c 1) c ≡ changed_entry 1 (entry_of roll c)
  unfolding changed
  low-entry = changed-own (change c 1) roll is accepted

  low_count : count_of (changed_roll roll c 1) c ≡ count_of roll c
  low_count = ap (λ (e : Entry). e.count) low-entry

  low_figure : figure_of (changed_roll roll c 1) c ≡ 2 → ⊥
  low_figure two = omega (arith, ap (λ (e : Entry). e.figure) low-entry, two)

  standing : in_standing (count_of roll c) ≡ true
  standing = (changing roll c 1 accepted).standing

  -- the figure over later calls
  still_low : (hs : List Change) → (Raised c hs (changed_roll roll c 1) → ⊥) → figure_of (roll_after hs (changed_roll roll c 1)) c ≡ 2 → ⊥
  still_low hs n = stays-low hs (changed_roll roll c 1) low_roll c low_figure n

  pub never_overwrites : (hs : List Change) → (Raised c hs (changed_roll roll c 1) → ⊥) → NoOverwriting (roll_after hs (changed_roll roll c 1)) c
  never_overwrites hs n = no_overwriting (roll_after hs (changed_roll roll c 1)) c (still_low hs n)

  -- the count over later calls
  pub same_count : (hs : List Change) → (Withdrawn c hs (changed_roll roll c 1) → ⊥) → count_of (roll_after hs (changed_roll roll c 1)) c ≡ count_of roll c
  same_count hs n = stays hs (changed_roll roll c 1) c (ap in_standing low_count ∙ standing) n ∙ low_count

  -- and while the contractor is not withdrawn
  module _ (hs : List Change) (n : Withdrawn c hs (changed_roll roll c 1) → ⊥) where
    abbrev other : Roll
    other = roll_after hs (changed_roll roll c 1)

    -- what opened for overwriting still reads, and is 25
    pub above : (Raised c hs (changed_roll roll c 1) → ⊥) → (key : List ℕ) (rounds : ℕ) (grant : List ℕ) (block : ℕ)
        → contractor_in (opened_grant key rounds grant) ≡ c
        → check_number key rounds roll grant block 2 ≡ 0 → check_number key rounds other grant block 2 ≡ 25
    unfolding OverwritingOpensReading OnlyOverwritingOverwrites
    above m key rounds grant block named z =
        let reads = (overwriting_opens_reading key rounds roll grant block _ (not_refused key rounds roll grant block 2 z)).number in
        let same = same_reading key rounds roll other grant block (subst (λ (d : ℕ). count_of other d ≡ count_of roll d) (sym named) (same_count hs n)) in
        is-above key rounds other grant block 2
        record {
          asked = refl;
          overwrites = only_overwriting_overwrites key rounds roll grant block z;
          reads = same.number ∙ reads;
          low = λ two. still_low hs m (ap (figure_of other) (sym named) ∙ two);
        }

    -- raising is accepted, and the entry is what it was
    again : change_number other c 2 ≡ 0
    again = none-given (change_tries c 2 (count_of other c))
        ((changing roll c 1 accepted).contractor, (refl, (ap in_standing (same_count hs n) ∙ standing, tt)))

    raised-entry : figure_of roll c ≡ 2 → entry_of (changed_roll other c 2) c ≡ entry_of roll c
    unfolding changed
    raised-entry two =
        changed-own (change c 2) other (after_roll hs (changed_roll roll c 1) low_roll) again
        ∙ (λ i. record { count = same_count hs n i; figure = sym two i })

    pub raises : figure_of roll c ≡ 2 → Raises roll other c
    raises two = record {
      number = again;
      checks = λ key rounds grant block right named.
          let raised = changed_roll other c 2 in
          same-entry key rounds roll raised grant block right
          (subst (λ (d : ℕ). entry_of raised d ≡ entry_of roll d) (sym named) (raised-entry two));
    }
