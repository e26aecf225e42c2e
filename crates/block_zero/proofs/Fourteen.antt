-- When 14 is given: where every try before it passes and the size block is 0, and nowhere else.
use mathlib.Core.Path.{◌≡◌, refl, ap, ◌∙◌}
use mathlib.Core.Bool.{Bool, true, ◌&&◌}
use mathlib.Core.List.{List, [], ◌∷◌, ◌++◌}
use Prim.Native.Nat.{ℕ, ◌+◌, ◌*◌, ◌≤◌, ◌<◌}
use native.Mathlib.Omega.{arith}
use lib.Dec.{eqb, leb, lit<}
use lib.ListN.{length}
use borrow.Author.Tests.{eqb-true, eq-eqb, leb-true, le-leb}
use Rattle.basics.proofs.Tests.{and_first, and_second}
use Rattle.refusal.specs.Tries.{Try, ◌unless◌, first, NoneHolds}
use Rattle.refusal.proofs.Tries.{first_then, first_holds}
use Rattle.refusal.proofs.Given.{others, given_by}
use Rattle.settings.specs.Settings.{settings_tries}
use Rattle.size_blocks.specs.SizeBlocks.{is_size_block}
use Rattle.size_blocks.proofs.SizeBlocks.{zero_is_none, is_zero}
use Rattle.key_pairs.specs.KeyPairs.{pair_tries}
use Rattle.roll.specs.declared.Roll.{Roll}
use Rattle.roll.specs.Roll.{is_contractor, entry_of, in_standing}
use Rattle.roll_bytes.specs.RollBytes.{roll_length, roll_of, roll_tries}
use Rattle.rights.specs.Rights.{is_right, within_highest}
use Rattle.rights.proofs.Rights.{right-least}
use Rattle.grant.specs.Grants.{contractor_in}
use Rattle.issuing.specs.Issuing.{issue_number}
use Rattle.judging.specs.Judging.{plain_tries}
use Rattle.checking.specs.Checking.{opened_grant, entry_now, check_number}
use Rattle.check_call.specs.CheckCall.{call_tries, call_code}
use Rattle.issue_call.specs.IssueCall.{issue_call_number}
use Rattle.queue_parts.specs.QueueParts.{queue_length, grants_in}
use Rattle.queue.specs.Queue.{queue_number}
use Rattle.queue_call.specs.QueueCall.{call_queue_number}
use Rattle.sealing.specs.Sealing.{seal_number}
use Rattle.call_claims.proofs.Opens.{refused_with, tried, call_refused}
use Rattle.page_claims.specs.Claims.{PageSettings}
use Rattle.page_claims.proofs.Settings.{rooms_both, is_settings}
use Rattle.block_zero.specs.Claims.{Asked, AskedQueue, AskedIssue}

-- in any list that tries 14 once
module _ (block : ℕ) (before after : List Try) (others-before : others 14 before ≡ true) (others-after : others 14 after ≡ true) where
  only_there : first (before ++ ((14 unless is_size_block block) ∷ after)) ≡ 14 → NoneHolds before × (block ≡ 0)
  only_there e =
      let g = given_by 14 (lit< tt) (is_size_block block) after others-after before others-before e in
      (g.0, is_zero block g.1)

  there : NoneHolds before → block ≡ 0 → first (before ++ ((14 unless is_size_block block) ∷ after)) ≡ 14
  there h z = first_then before ((14 unless is_size_block block) ∷ after) h ∙ first_holds _ _ (zero_is_none block z)

-- ---- checks
abbrev before-check : List ℕ → ℕ → Bool → ℕ → List Try
before-check key rounds lengths right = settings_tries (length key) rounds ++ ((3 unless lengths) ∷ (7 unless is_right right) ∷ [])

module _ (key : List ℕ) (rounds : ℕ) (grant : List ℕ) (right : ℕ) where
  -- with whatever else the test of the lengths asks for
  asked_with : (lengths : Bool) → NoneHolds (before-check key rounds lengths right) → (lengths ≡ true → eqb (length grant) 12 ≡ true)
      → Asked key rounds grant right
  asked_with lengths h t = record {
    key-length = h.0;
    round-count = h.1.0;
    twelve = eqb-true (length grant) 12 (t h.1.1.0);
    known_right = h.1.1.1.0;
  }

  asked-passes : Asked key rounds grant right → NoneHolds (before-check key rounds (eqb (length grant) 12) right)
  asked-passes a = (a.key-length, (a.round-count, (eq-eqb (length grant) 12 a.twelve, (a.known_right, tt))))

  module _ (roll : Roll) (block : ℕ) where
    abbrev after_check : List Try
    after_check = plain_tries (opened_grant key rounds grant) (entry_now key rounds roll grant) block right

    pub check_only : check_number key rounds roll grant block right ≡ 14 → Asked key rounds grant right × (block ≡ 0)
    check_only e =
        let g = only_there block (before-check key rounds (eqb (length grant) 12) right) after_check refl refl e in
        (asked_with (eqb (length grant) 12) g.0 (λ t. t), g.1)

    pub check_there : Asked key rounds grant right → block ≡ 0 → check_number key rounds roll grant block right ≡ 14
    check_there a z = there block (before-check key rounds (eqb (length grant) 12) right) after_check refl refl (asked-passes a) z

  module _ (roll : List ℕ) (block : ℕ) where
    pub call_only : call_code key rounds roll grant block right ≡ 14 → (length roll ≡ roll_length) × (Asked key rounds grant right × (block ≡ 0))
    unfolding call_code
    call_only e =
        let ts = call_tries key rounds roll grant block right in
        let l = eqb (length roll) roll_length in
        let t = eqb (length grant) 12 in
        let x = 1000 * right + contractor_in (opened_grant key rounds grant) in
        let n = refused_with (first ts) x 14 (λ z. omega (arith, right-least right (tried key rounds roll grant block right z).0.asked)) e in
        let g = only_there block (before-check key rounds (l && t) right) (after_check (roll_of roll) block) refl refl n in
        (eqb-true (length roll) roll_length (and_first l t g.0.1.1.0), (asked_with (l && t) g.0 (and_second l t), g.1))

    pub call_there : length roll ≡ roll_length → Asked key rounds grant right → block ≡ 0 → call_code key rounds roll grant block right ≡ 14
    call_there l a z = call_refused key rounds roll grant block right l 14 (lit< tt) (check_there (roll_of roll) block a z)

-- ---- queues
abbrev before_queue : List ℕ → ℕ → Bool → List ℕ → ℕ → List ℕ → List Try
before_queue key rounds lengths grants right out =
    settings_tries (length key) rounds
    ++ ((3 unless lengths) ∷ (4 unless leb (grants_in (length grants)) (length out)) ∷ (7 unless is_right right) ∷ [])

module _ (key : List ℕ) (rounds : ℕ) (grants : List ℕ) (block right : ℕ) (out : List ℕ) where
  queue_with : (lengths : Bool) → NoneHolds (before_queue key rounds lengths grants right out)
      → (lengths ≡ true → queue_length (length grants) ≡ true) → AskedQueue key rounds grants right out
  queue_with lengths h t = record {
    key-length = h.0;
    round-count = h.1.0;
    long = t h.1.1.0;
    room = leb-true (grants_in (length grants)) (length out) h.1.1.1.0;
    known_right = h.1.1.1.1.0;
  }

  queue_passing : (lengths : Bool) → lengths ≡ true → AskedQueue key rounds grants right out → NoneHolds (before_queue key rounds lengths grants right out)
  queue_passing lengths l a =
      (a.key-length, (a.round-count, (l, (le-leb (grants_in (length grants)) (length out) a.room, (a.known_right, tt)))))

  pub queue_only : queue_number key rounds grants block right out ≡ 14 → AskedQueue key rounds grants right out × (block ≡ 0)
  queue_only e =
      let l = queue_length (length grants) in
      let g = only_there block (before_queue key rounds l grants right out) [] refl refl e in
      (queue_with l g.0 (λ t. t), g.1)

  pub queue_there : AskedQueue key rounds grants right out → block ≡ 0 → queue_number key rounds grants block right out ≡ 14
  queue_there a z =
      let l = queue_length (length grants) in
      there block (before_queue key rounds l grants right out) [] refl refl (queue_passing l a.long a) z

  module _ (roll : List ℕ) where
    pub queue_call_only : call_queue_number key rounds roll grants block right out ≡ 14
        → (length roll ≡ roll_length) × (AskedQueue key rounds grants right out × (block ≡ 0))
    queue_call_only e =
        let l = eqb (length roll) roll_length in
        let q = queue_length (length grants) in
        let g = only_there block (before_queue key rounds (l && q) grants right out) [] refl refl e in
        (eqb-true (length roll) roll_length (and_first l q g.0.1.1.0), (queue_with (l && q) g.0 (and_second l q), g.1))

    pub queue_call_there : length roll ≡ roll_length → AskedQueue key rounds grants right out → block ≡ 0
        → call_queue_number key rounds roll grants block right out ≡ 14
    queue_call_there l a z =
        let q = queue_length (length grants) in
        let both = ap (λ (b : Bool). b && q) (eq-eqb (length roll) roll_length l) ∙ a.long in
        there block (before_queue key rounds (eqb (length roll) roll_length && q) grants right out) [] refl refl (queue_passing _ both a) z

-- ---- issues
module _ (key : List ℕ) (rounds c block right : ℕ) (out : List ℕ) where
  abbrev before_wanted : List Try
  before_wanted = (4 unless leb 12 (length out)) ∷ (6 unless is_contractor c) ∷ (7 unless is_right right) ∷ []

  abbrev after_wanted : Roll → List Try
  after_wanted roll =
      let entry = entry_of roll c in
      (20 unless in_standing entry.count) ∷ (25 unless within_highest right entry.figure) ∷ []

  issue_with : NoneHolds (settings_tries (length key) rounds) → NoneHolds before_wanted → AskedIssue key rounds c right out
  issue_with s h = record {
    key-length = s.0;
    round-count = s.1.0;
    room = leb-true 12 (length out) h.0;
    known_contractor = h.1.0;
    known_right = h.1.1.0;
  }

  wanted_passing : AskedIssue key rounds c right out → NoneHolds before_wanted
  wanted_passing a = (le-leb 12 (length out) a.room, (a.known_contractor, (a.known_right, tt)))

  pub issue_only : (roll : Roll) → issue_number key rounds roll c block right out ≡ 14 → AskedIssue key rounds c right out × (block ≡ 0)
  issue_only roll e =
      let g = only_there block (settings_tries (length key) rounds ++ before_wanted) (after_wanted roll) refl refl e in
      let h = g.0 in
      (issue_with (h.0, (h.1.0, tt)) h.1.1, g.1)

  pub issue_there : (roll : Roll) → AskedIssue key rounds c right out → block ≡ 0 → issue_number key rounds roll c block right out ≡ 14
  issue_there roll a z =
      there block (settings_tries (length key) rounds ++ before_wanted) (after_wanted roll) refl refl
      (a.key-length, (a.round-count, wanted_passing a)) z

  pub issue_call_only : (roll : List ℕ) → issue_call_number key rounds roll c block right out ≡ 14
      → (length roll ≡ roll_length) × (AskedIssue key rounds c right out × (block ≡ 0))
  issue_call_only roll e =
      let settings = settings_tries (length key) rounds ++ roll_tries (length roll) in
      let g = only_there block (settings ++ before_wanted) (after_wanted (roll_of roll)) refl refl e in
      let h = g.0 in
      (eqb-true (length roll) roll_length h.1.1.0, (issue_with (h.0, (h.1.0, tt)) h.1.1.1, g.1))

  pub issue_call_there : (roll : List ℕ) → length roll ≡ roll_length → AskedIssue key rounds c right out → block ≡ 0
      → issue_call_number key rounds roll c block right out ≡ 14
  issue_call_there roll l a z =
      let settings = settings_tries (length key) rounds ++ roll_tries (length roll) in
      there block (settings ++ before_wanted) (after_wanted (roll_of roll)) refl refl
      (a.key-length, (a.round-count, (eq-eqb (length roll) roll_length l, wanted_passing a))) z

-- ---- sealing
pub seal_only : (key₁ key₂ : List ℕ) (rounds block : ℕ) (payload scratch out : List ℕ) → seal_number key₁ key₂ rounds block payload scratch out ≡ 14
    → PageSettings key₁ key₂ rounds × ((576 ≤ length scratch) × ((512 ≤ length out) × (block ≡ 0)))
seal_only key₁ key₂ rounds block payload scratch out e =
    let room = leb 576 (length scratch) && leb 512 (length out) in
    let g = only_there block (pair_tries key₁ key₂ rounds ++ ((4 unless room) ∷ [])) ((12 unless leb (length payload) 492) ∷ []) refl refl e in
    let h = g.0 in
    let r = rooms_both 576 512 (length scratch) (length out) h.1.1.0 in
    (is_settings key₁ key₂ rounds h.0 h.1.0, (r.0, (r.1, g.1)))
