-- When a check is accepted.
use mathlib.Core.Path.{◌≡◌, refl, sym, ap, ◌∙◌}
use mathlib.Core.Bool.{true}
use mathlib.Core.List.{List}
use Prim.Native.Nat.{ℕ, ◌≤◌, ◌<◌}
use native.Mathlib.Omega.{arith}
use lib.Dec.{eqb}
use lib.ListN.{length}
use borrow.Author.Tests.{eqb-true, eq-eqb, leb-true, le-leb}
use Rattle.refusal.specs.Tries.{Try}
use Rattle.refusal.proofs.Tries.{none-given}
use Rattle.refusal.proofs.Ladder.{all_pass}
use Rattle.refusal.proofs.Answers.{answer-done}
use Rattle.rounds.proofs.Restored.{enciphered_state}
use Rattle.block_bytes.specs.Blocks.{state_of}
use Rattle.basics.specs.Bytes.{AreBytes}
use Rattle.block_bytes.proofs.RoundTrip.{block_state}
use Rattle.sizes.specs.Sizes.{key_length}
use Rattle.size_blocks.proofs.SizeBlocks.{is-size_block, other_than_zero}
use Rattle.key_lists.specs.declared.Direction.TheVariants.{Deciphering}
use Rattle.key_lists.specs.KeyLists.{list_for}
use Rattle.key_lists.proofs.Lists.{states_for}
use Rattle.cipher.specs.Cipher.{cipher_block}
use Rattle.roll.specs.declared.Roll.{Roll}
use Rattle.roll.specs.Roll.{is_contractor, count_of, figure_of, in_standing}
use Rattle.roll.proofs.Contractors.{a_contractor, is-contractor, a_standing, is_standing}
use Rattle.rights.specs.Rights.{is_right, covers, highest, within_highest}
use Rattle.grant.specs.Grants.{plain_grant, contractor_in, count_in, size_block_in, right_in, is_marked, is_grant}
use Rattle.judging.specs.Judging.{plain_tries}
use Rattle.judging.proofs.Passed.{InputPassed, PlainPassed, input_passed, input_passes, plain-passed, plain_passes}
use Rattle.checking.specs.Checking.{opened_grant, entry_now, check_tries, check_number, check_contractor, check_right}
use Rattle.rights.proofs.Rights.{one_or_two, is_right_lem, covers_reading, covering_right, within_reading}
use Rattle.grant.proofs.Tests.{a_grant, is-grant}
use Rattle.revocation.specs.Claims.{Opening, Accepted}
use Rattle.revocation.proofs.Bytes.{reads-contractor, reads-count, reads_block, reads-right, reads_mark, written_again, state_bytes_small}

-- ---- the highest right
pub within-is : (asked figure : ℕ) → within_highest asked figure ≡ true → asked ≤ highest figure
unfolding within_highest
within-is asked figure e = leb-true asked (highest figure) e

is_within : (asked figure : ℕ) → asked ≤ highest figure → within_highest asked figure ≡ true
unfolding within_highest
is_within asked figure l = le-leb asked (highest figure) l

-- ---- the plain bytes
opened-twelve : (key : List ℕ) (rounds : ℕ) (grant : List ℕ) → length (opened_grant key rounds grant) ≡ 12
unfolding opened_grant cipher_block
opened-twelve key rounds grant = refl

opened-bytes : (key : List ℕ) → AreBytes key → (rounds : ℕ) (grant : List ℕ) → AreBytes grant → key_length (length key) ≡ true
    → AreBytes (opened_grant key rounds grant)
unfolding opened_grant cipher_block
opened-bytes key hk rounds grant hg k =
    state_bytes_small (enciphered_state (list_for Deciphering key rounds) (state_of grant) (states_for key k hk Deciphering rounds) (block_state grant hg))

-- ---- what an accepted check passed
module _ (key : List ℕ) (rounds : ℕ) (roll : Roll) (grant : List ℕ) (block right : ℕ) where
  p : List ℕ
  p = opened_grant key rounds grant

  abbrev plain-tries : List Try
  plain-tries = plain_tries (opened_grant key rounds grant) (entry_now key rounds roll grant) block right

  abbrev pub Input : Type 0
  Input = InputPassed (length key) rounds (eqb (length grant) 12) block right

  abbrev pub Plain : Type 0
  Plain = PlainPassed (opened_grant key rounds grant) (entry_now key rounds roll grant) block right

  pub passed : check_number key rounds roll grant block right ≡ 0 → Input × Plain
  passed e =
      let h = input_passed (length key) rounds (eqb (length grant) 12) block right plain-tries
      (all_pass (check_tries key rounds roll grant block right) refl e) in
      (h.0, plain-passed (opened_grant key rounds grant) (entry_now key rounds roll grant) block right h.1)

  -- and back
  pub passes : Input → Plain → check_number key rounds roll grant block right ≡ 0
  passes i t =
      none-given (check_tries key rounds roll grant block right)
      (input_passes (length key) rounds (eqb (length grant) 12) block right plain-tries i
      (plain_passes (opened_grant key rounds grant) (entry_now key rounds roll grant) block right t))

  -- a check that is not refused is accepted, with what it answers
  pub not_refused : check_number key rounds roll grant block right ≡ 0
      → Accepted key rounds roll grant block right (check_contractor key rounds roll grant block right)
  unfolding check_right
  not_refused e = record {
    number = e;
    answers-contractor = refl;
    answers-right = sym (answer-done (check_tries key rounds roll grant block right) right 0 e);
  }

  -- the grant's contractor is in standing
  pub stands : check_number key rounds roll grant block right ≡ 0 → in_standing (count_of roll (contractor_in (opened_grant key rounds grant))) ≡ true
  stands e = (passed e).1.stands

  pub opening : AreBytes key → AreBytes grant → check_number key rounds roll grant block right ≡ 0 → Opening key rounds roll grant block right
  unfolding p
  opening hk hg e =
      let i = (passed e).0 in
      let t = (passed e).1 in
      let g = a_grant p t.whole in
      let eb = eqb-true (size_block_in p) block t.same_block in
      let s = a_standing (count_of roll (contractor_in p)) t.stands in
      let ec = eqb-true (count_in p) (count_of roll (contractor_in p)) t.same_count in
      let c = a_contractor (contractor_in p) g.contractor in
      let again = written_again p (opened-twelve key rounds grant) (opened-bytes key hk rounds grant hg i.key-length) g.marked in
      record {
        key-length = i.key-length;
        round-count = i.round-count;
        twelve = eqb-true (length grant) 12 i.long;
        asked = one_or_two right i.asked;
        some_block = other_than_zero block i.some_block;
        contractor = contractor_in p;
        count = count_in p;
        granted = right_in p;
        covered = t.covered;
        plain = sym again ∙ ap (λ (b : ℕ). plain_grant (contractor_in p) (count_in p) b (right_in p)) eb;
        least = c.least;
        most = c.most;
        on_roll = sym ec;
        odd = omega (arith, s.odd, ec);
        below = omega (arith, s.below, ec);
        within = within-is right _ t.within;
      }

-- whatever was asked for, a whole grant for that size block, in its contractor's standing, opens for reading: it covers reading, and no figure is below
pub reads_too : (key : List ℕ) (rounds : ℕ) (roll : Roll) (grant : List ℕ) (block right : ℕ) → let p = opened_grant key rounds grant in
    Input key rounds roll grant block right → is_grant p ≡ true → eqb (size_block_in p) block ≡ true
    → in_standing (count_of roll (contractor_in p)) ≡ true → eqb (count_in p) (count_of roll (contractor_in p)) ≡ true
    → check_number key rounds roll grant block 1 ≡ 0
reads_too key rounds roll grant block right i whole same_block stands same_count =
    let p = opened_grant key rounds grant in
    passes key rounds roll grant block 1
    record { key-length = i.key-length; round-count = i.round-count; long = i.long; asked = refl; some_block = i.some_block }
    record {
      whole = whole;
      same_block = same_block;
      covered = covers_reading (right_in p) (a_grant p whole).right;
      stands = stands;
      same_count = same_count;
      within = within_reading _;
    }

-- what plain bytes name
pub record Named (p : List ℕ) (c n b r : ℕ) : Type 0 where
  pub contractor : contractor_in p ≡ c
  pub count : count_in p ≡ n
  pub block : size_block_in p ≡ b
  pub right : right_in p ≡ r
  pub grant : is_grant p ≡ true

pub named : (p : List ℕ) (c n b r : ℕ) → p ≡ plain_grant c n b r
    → 1 ≤ c → c ≤ 200 → n < 65536 → b < 4294967296 → is_right r ≡ true → Named p c n b r
named p c n b r plain least most small few asked =
    let ec = ap contractor_in plain ∙ reads-contractor c n b r (omega arith) in
    let er = ap right_in plain ∙ reads-right c n b r in
    let marked = ap is_marked plain ∙ reads_mark c n b r in
    let contractor = ap is_contractor ec ∙ is-contractor c record { least = least; most = most } in
    record {
      contractor = ec;
      count = ap count_in plain ∙ reads-count c n b r small;
      block = ap size_block_in plain ∙ reads_block c n b r few;
      right = er;
      grant = is-grant p record { marked = marked; contractor = contractor; right = ap is_right er ∙ asked };
    }

pub accepted : (key : List ℕ) (rounds : ℕ) (roll : Roll) (grant : List ℕ) (block right : ℕ) → block < 4294967296
    → (o : Opening key rounds roll grant block right) → Accepted key rounds roll grant block right o.contractor
unfolding check_contractor check_right
accepted key rounds roll grant block right few o =
    let c = o.contractor in
    let n = o.count in
    let q = is_right_lem right o.asked in
    let small : n < 65536 = omega (arith, o.below) in
    let p = opened_grant key rounds grant in
    let granted = covering_right o.granted right o.covered in
    let m = named p c n block o.granted o.plain o.least o.most small few granted in
    let covered : covers (right_in p) right ≡ true = ap (λ (g : ℕ). covers g right) m.right ∙ o.covered in
    let s : count_of roll (contractor_in p) ≡ n = ap (count_of roll) m.contractor ∙ o.on_roll in
    let stands = is_standing n record { odd = o.odd; below = o.below } in
    let within = ap (λ (d : ℕ). within_highest right (figure_of roll d)) m.contractor ∙ is_within right (figure_of roll c) o.within in
    let e = passes key rounds roll grant block right
    record {
      key-length = o.key-length;
      round-count = o.round-count;
      long = eq-eqb (length grant) 12 o.twelve;
      asked = q;
      some_block = is-size_block block o.some_block;
    }
    record {
      whole = m.grant;
      same_block = eq-eqb _ block m.block;
      covered = covered;
      stands = ap in_standing s ∙ stands;
      same_count = eq-eqb _ _ (m.count ∙ sym s);
      within = within;
    } in
    record {
      number = e;
      answers-contractor = sym (answer-done (check_tries key rounds roll grant block right) (contractor_in p) 0 e) ∙ m.contractor;
      answers-right = sym (answer-done (check_tries key rounds roll grant block right) right 0 e);
    }
