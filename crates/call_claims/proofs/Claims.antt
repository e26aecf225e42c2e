-- A term of each type of specs/Claims.antt.
use mathlib.Core.Path.{◌≡◌, refl, sym, ap, ◌∙◌, subst⁻¹}
use mathlib.Core.Bool.{true}
use mathlib.Core.List.{List, [], ◌∷◌}
use Prim.Native.Nat.{ℕ}
use native.Mathlib.Omega.{arith}
use lib.Dec.{lit<}
use lib.ListN.{length, replicate}
use borrow.Author.Tests.{eqb-true}
use Rattle.refusal.specs.Tries.{first, written, answered, NoneHolds}
use Rattle.refusal.proofs.Tries.{none-given}
use Rattle.refusal.proofs.Ladder.{all_pass, ordered}
use Rattle.refusal.proofs.Answers.{starts}
use Rattle.basics.specs.Bytes.{AreBytes}
use Rattle.cipher.specs.Cipher.{cipher_block}
use Rattle.roll.specs.declared.Roll.{Roll}
use Rattle.roll.specs.Roll.{empty_roll, count_of, figure_of, entry_of, in_standing, with_entry}
use Rattle.roll_changes.specs.Changes.{entered_roll}
use Rattle.roll_bytes.specs.RollBytes.{counts_of, roll_length, roll_of, counts_bytes, roll_bytes}
use Rattle.roll_bytes.specs.Claims.{BytesTellRoll}
use Rattle.roll_bytes.proofs.Entries.{length-empty}
use Rattle.roll_bytes.proofs.Claims.{bytes_tell_roll}
use Rattle.histories.specs.Histories.{Change, enter, changed, roll_after, Withdrawn}
use Rattle.histories.proofs.Calls.{zeros-small, empty_roll_lem}
use Rattle.std.specs.Prelude.{Ok, Err}
use Rattle.size_blocks.specs.SizeBlocks.{is_size_block}
use Rattle.rights.specs.Rights.{is_right}
use Rattle.rights.proofs.Rights.{within_two}
use Rattle.issuing.specs.Issuing.{issue_tries, issued_grant}
use Rattle.issuing.proofs.Passed.{wanted_passes}
use Rattle.checking.specs.Checking.{check_number}
use Rattle.revocation.specs.Claims.{Issued, OpensNothing, IssuedOpens, EarlierNeverOpens}
use Rattle.revocation.specs.Claims.{EarlierInTwoRooms, RevokedNeverOpens, RevokedInTwoRooms, roll7, calls7}
use Rattle.revocation.proofs.Claims.{issued-opens, earlier_never_opens, earlier_in_two_rooms, revoked_never_opens, revoked_in_two_rooms, withdrawn_7}
use Rattle.check_call.specs.CheckCall.{call_code}
use Rattle.roll_calls.specs.RollCalls.{enter_call_roll, empty_call_tries, enter_call_tries, withdraw_call_tries, change_call_tries}
use Rattle.issue_call.specs.IssueCall.{issue_call_tries, issue_call_number, issue_call_output}
use Rattle.call_claims.specs.CallHistories.{called, bytes_after, CallIssued, grant_given}
use Rattle.call_claims.specs.Claims.{CodesTellVerdicts, ChecksNameContractors, CallInOrder, RollCallsInOrder, CallOpensExactlyWhen}
use Rattle.call_claims.specs.Claims.{CallNeverZero, CallIsCheck}
use Rattle.call_claims.specs.Claims.{Holds, BytesFollowRoll, CallChecks, CallIssuedOpens, CallOverwritingOpensReading, CallTenOnlyForOverwriting}
use Rattle.call_claims.specs.Claims.{bytes_with7, CallAnswersTo7, Refuses, CallsRevokeEarlier}
use Rattle.call_claims.specs.Claims.{CallsRevokeEarlierInTwoRooms, CallsRevoke, CallsRevokeInTwoRooms, CallsRevokeSomething}
use Rattle.call_claims.proofs.Codes as codes
use Rattle.call_claims.proofs.Opens.{checked_contractor, in_order, is-check, call_opening, call_accepted, never_zero, call_refuses}
use Rattle.call_claims.proofs.Opens.{call_given, call_ten, call_refused, call_looks}
use Rattle.call_claims.proofs.Stored.{is_roll, rolls_bytes, after_holds, withdrawn-read, withdrawn-called}

-- ---- the check's number
pub codes_tell_verdicts : CodesTellVerdicts
codes_tell_verdicts = codes.codes_tell_verdicts

pub checks_name_contractors : ChecksNameContractors
unfolding ChecksNameContractors
checks_name_contractors key rounds roll grant block right (Ok g) n c =
    let h = checked_contractor key rounds roll grant block right (sym n) in (omega (arith, h.0, c), omega (arith, h.1, c))
checks_name_contractors key rounds roll grant block right (Err r) n c = tt

pub call_in_order : CallInOrder
unfolding CallInOrder
call_in_order = in_order

pub roll_calls_in_order : RollCallsInOrder
unfolding RollCallsInOrder
roll_calls_in_order key rounds roll c block right out = record {
  empty = ordered (empty_call_tries out) refl;
  enter = ordered (enter_call_tries roll c right) refl;
  withdraw = ordered (withdraw_call_tries roll c) refl;
  change = ordered (change_call_tries roll c right) refl;
  issue = ordered (issue_call_tries key rounds roll c block right out) refl;
}

pub call_opens_exactly_when : CallOpensExactlyWhen
unfolding CallOpensExactlyWhen
call_opens_exactly_when key hk rounds roll grant hg block few right =
    (call_opening key hk rounds roll grant hg block few right, call_accepted key hk rounds roll grant hg block few right)

pub call_never_zero : CallNeverZero
unfolding CallNeverZero
call_never_zero = never_zero

pub call_is_check : CallIsCheck
unfolding CallIsCheck
call_is_check = is-check

-- ---- a store through its C calls
pub bytes_follow_roll : BytesFollowRoll
unfolding BytesFollowRoll
bytes_follow_roll bytes h e hs = after_holds hs bytes h e

-- where a grant opens nothing on the roll after some calls, gordzila_check refuses it on the bytes after them
grant-refused : (key : List ℕ) (rounds : ℕ) (roll : List ℕ) → AreBytes roll → length roll ≡ roll_length → (grant : List ℕ) (hs : List Change)
    → OpensNothing key rounds (roll_after hs (roll_of roll)) grant → Refuses key rounds (bytes_after hs roll) grant
grant-refused key rounds roll small long grant hs n b r =
    call_refuses key rounds (bytes_after hs roll) grant b r
    (λ e. n b r (ap (λ (x : Roll). check_number key rounds x grant b r) (sym (after_holds hs roll small long).read) ∙ e))

-- ---- a grant that gordzila_issue wrote
module _ (key : List ℕ) (rounds : ℕ) (roll : List ℕ) (contractor block right : ℕ) (out : List ℕ)
    (i : CallIssued key rounds roll contractor block right out) where
  allowed : NoneHolds (issue_call_tries key rounds roll contractor block right out)
  allowed = all_pass (issue_call_tries key rounds roll contractor block right out) refl i.number

  pub long : length roll ≡ roll_length
  long = eqb-true (length roll) roll_length allowed.1.1.0

  -- it is one that was issued on the roll that is read
  pub issued : Issued key rounds (roll_of roll) contractor block right out
  issued = record {
    key-bytes = i.key-bytes;
    block_small = i.block_small;
    number = none-given (issue_tries key rounds (roll_of roll) contractor block right out) (allowed.0, (allowed.1.0, allowed.1.1.1));
  }

  pub given : grant_given key rounds roll contractor block right out ≡ issued_grant key rounds (roll_of roll) contractor block right
  unfolding issue_call_output issued_grant cipher_block
  given = (starts (issue_call_number key rounds roll contractor block right out) (issued_grant key rounds (roll_of roll) contractor block right) out i.number).1

  abbrev g : List ℕ
  g = issued_grant key rounds (roll_of roll) contractor block right

  pub as_issued : (b r : ℕ) → call_code key rounds roll (grant_given key rounds roll contractor block right out) b r ≡ call_code key rounds roll g b r
  as_issued b r = ap (λ (g : List ℕ). call_code key rounds roll g b r) given

  pub checks : CallChecks key rounds roll contractor block right out
  unfolding IssuedOpens
  checks =
      let w = issued-opens key rounds (roll_of roll) contractor block right out issued in
      record {
        opens = as_issued block right ∙ call_given key rounds roll g block right long contractor w.opens;
        looks = λ e. as_issued block 1 ∙ call_given key rounds roll g block 1 long contractor (w.looks e);
        only_reads = λ e. as_issued block 2 ∙ call_refused key rounds roll g block 2 long 10 (lit< tt) (w.only_reads e);
        no_right = λ asked q. as_issued block asked ∙ call_refused key rounds roll g block asked long 7 (lit< tt) (w.no_right asked q);
        other_block = λ b asked d z q. as_issued b asked ∙ call_refused key rounds roll g b asked long 9 (lit< tt) (w.other_block b asked d z q);
        block_zero = λ asked q. as_issued 0 asked ∙ call_refused key rounds roll g 0 asked long 14 (lit< tt) (w.block_zero asked q);
      }

  -- where it opens nothing on the roll after some calls, gordzila_check refuses it on the bytes after them
  refused : (hs : List Change) → OpensNothing key rounds (roll_after hs (roll_of roll)) (issued_grant key rounds (roll_of roll) contractor block right)
      → Refuses key rounds (bytes_after hs roll) (grant_given key rounds roll contractor block right out)
  refused hs n =
      subst⁻¹ (Refuses key rounds (bytes_after hs roll)) given
      (grant-refused key rounds roll i.roll_has_bytes long (issued_grant key rounds (roll_of roll) contractor block right) hs n)

pub call_issued_opens : CallIssuedOpens
unfolding CallIssuedOpens
call_issued_opens = checks

pub call_overwriting_opens_reading : CallOverwritingOpensReading
unfolding CallOverwritingOpensReading
call_overwriting_opens_reading = call_looks

pub call_ten_only_for_overwriting : CallTenOnlyForOverwriting
unfolding CallTenOnlyForOverwriting
call_ten_only_for_overwriting = call_ten

-- the empty roll's bytes, and those after contractor 7 is entered
empty_holds : Holds (roll_bytes empty_roll) empty_roll
unfolding BytesTellRoll
empty_holds = record {
  small = rolls_bytes empty_roll empty_roll_lem;
  long = length-empty;
  read = bytes_tell_roll empty_roll empty_roll_lem.many empty_roll_lem.small;
}

pub holds_7 : Holds bytes_with7 roll7
unfolding roll_after changed
holds_7 =
    let h = after_holds (enter 7 2 ∷ []) (roll_bytes empty_roll) empty_holds.small empty_holds.long in
    record { small = h.small; long = h.long; read = h.read ∙ ap (roll_after (enter 7 2 ∷ [])) empty_holds.read }

-- contractor 7 gets a grant with either right
pub issued_7 : (right : ℕ) → is_right right ≡ true → CallIssued (replicate 12 0) 10 bytes_with7 7 300 right (replicate 12 0)
unfolding bytes_after called enter_call_roll first is_size_block written answered roll_of counts_of roll_bytes counts_bytes empty_roll count_of
    figure_of in_standing
    with_entry entered_roll
issued_7 right q = record {
  key-bytes = zeros-small (lit< tt) 12;
  roll_has_bytes = holds_7.small;
  block_small = lit< tt;
  number = none-given (issue_call_tries (replicate 12 0) 10 bytes_with7 7 300 right (replicate 12 0)) (
    refl,
    (
      refl,
      (
        refl,
        wanted_passes 12 7 300 right (entry_of (roll_of bytes_with7) 7)
            record { fits = refl; known = refl; asked = q; some_block = refl; stands = refl; within = within_two right q },
      ),
    ),
  );
}

pub call_answers_to_7 : CallAnswersTo7
unfolding CallAnswersTo7
call_answers_to_7 =
    let overwriting = checks (replicate 12 0) 10 bytes_with7 7 300 2 (replicate 12 0) (issued_7 2 refl) in
    let reading = checks (replicate 12 0) 10 bytes_with7 7 300 1 (replicate 12 0) (issued_7 1 refl) in
    (overwriting.looks refl, (overwriting.opens, (reading.opens, reading.only_reads refl)))

pub calls_revoke_earlier : CallsRevokeEarlier
unfolding CallsRevokeEarlier EarlierNeverOpens
calls_revoke_earlier key rounds roll small long contractor grant g hs w =
    grant-refused key rounds roll small long grant hs
    (earlier_never_opens key rounds (roll_of roll) contractor grant g (is_roll roll small long) hs (withdrawn-read w small long))

pub calls_revoke_earlier_in_two_rooms : CallsRevokeEarlierInTwoRooms
unfolding CallsRevokeEarlierInTwoRooms EarlierInTwoRooms
calls_revoke_earlier_in_two_rooms key rounds roll small long contractor grant g xs ys zs m w =
    grant-refused key rounds roll small long grant zs
    (earlier_in_two_rooms key rounds (roll_of roll) contractor grant g (is_roll roll small long) xs ys zs m w)

pub calls_revoke : CallsRevoke
unfolding CallsRevoke RevokedNeverOpens
calls_revoke key rounds roll contractor block right out i hs w =
    refused key rounds roll contractor block right out i hs
    (revoked_never_opens key rounds (roll_of roll) contractor block right out (issued key rounds roll contractor block right out i)
    (is_roll roll i.roll_has_bytes (long key rounds roll contractor block right out i)) hs
    (withdrawn-read w i.roll_has_bytes (long key rounds roll contractor block right out i)))

pub calls_revoke_in_two_rooms : CallsRevokeInTwoRooms
unfolding CallsRevokeInTwoRooms RevokedInTwoRooms
calls_revoke_in_two_rooms key rounds roll contractor block right out i xs ys zs m w =
    refused key rounds roll contractor block right out i zs
    (revoked_in_two_rooms key rounds (roll_of roll) contractor block right out (issued key rounds roll contractor block right out i)
    (is_roll roll i.roll_has_bytes (long key rounds roll contractor block right out i)) xs ys zs m w)

pub calls_revoke_something : CallsRevokeSomething
unfolding CallsRevokeSomething
calls_revoke_something =
    (issued_7 2 refl, withdrawn-called bytes_with7 holds_7.small holds_7.long (subst⁻¹ (Withdrawn 7 calls7) holds_7.read withdrawn_7))
