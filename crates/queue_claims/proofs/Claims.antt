-- A term of each type of specs/Claims.antt.
use mathlib.Core.Path.{◌≡◌, refl, sym, ap, ◌∙◌, subst⁻¹}
use mathlib.Core.Bool.{Bool, true≢false, cond}
use mathlib.Core.List.{List}
use Prim.Native.Nat.{ℕ, ◌≤◌}
use native.Mathlib.Omega.{arith}
use lib.ListN.{length, get_or}
use borrow.Author.Tests.{lt-leb, eqb-true}
use Rattle.refusal.proofs.Tries.{first_then}
use Rattle.refusal.proofs.Ladder.{ordered, all_pass}
use Rattle.refusal.proofs.Answers.{kept}
use Rattle.roll.specs.declared.Roll.{Roll}
use Rattle.roll.specs.Roll.{count_of, in_standing}
use Rattle.roll_changes.specs.Changes.{withdraw_tries, withdrawn_roll}
use Rattle.roll_bytes.specs.RollBytes.{roll_length, roll_of, roll_tries}
use Rattle.histories.specs.Histories.{withdraw, changed}
use Rattle.histories.specs.Claims.{CallsCount}
use Rattle.histories.proofs.Claims.{calls_count}
use Rattle.checking.specs.Checking.{check_number}
use Rattle.revocation.specs.Claims.{OpensNothing, EarlierNeverOpens, EarlierInTwoRooms, RevokedNeverOpens, RevokedInTwoRooms}
use Rattle.revocation.proofs.Claims.{earlier_never_opens, earlier_in_two_rooms, revoked_never_opens, revoked_in_two_rooms}
use Rattle.revocation.proofs.Checks.{stands}
use Rattle.check_call.specs.CheckCall.{call_code}
use Rattle.call_claims.specs.Claims.{Refuses, CallsRevokeEarlier, CallsRevokeEarlierInTwoRooms, CallsRevoke, CallsRevokeInTwoRooms}
use Rattle.roll_calls.specs.RollCalls.{withdraw_call_tries, withdraw_call_roll}
use Rattle.call_claims.specs.CallHistories.{called}
use Rattle.call_claims.proofs.Stored.{is_roll, call_holds}
use Rattle.call_claims.proofs.Claims.{calls_revoke_earlier, calls_revoke_earlier_in_two_rooms, calls_revoke, calls_revoke_in_two_rooms}
use Rattle.queue.specs.Queue.{queue_tries, queue_number, queue_answers, queue_output}
use Rattle.queue_call.specs.QueueCall.{call_queue_tries, call_queue_number, call_queue_output}
use Rattle.queue_claims.specs.Claims.{QueueInOrder, RefusedQueueKeeps, BytesAreChecks, BytesAreVerdicts, OpensNowhere, QueueAfterWithdrawal}
use Rattle.queue_claims.specs.Claims.{QueueRevoked, QueueRevokedInTwoRooms, as_byte, CallBytesAreChecks, CallIsQueue, CallBytesAreVerdicts}
use Rattle.queue_claims.specs.Claims.{CallOpensNowhere, CallQueueAfterWithdrawal, CallQueueRevoked, CallQueueRevokedInTwoRooms}
use Rattle.queue_claims.specs.Claims.{QueueRevokedEarlier, QueueRevokedEarlierInTwoRooms, CallQueueRevokedEarlier, CallQueueRevokedEarlierInTwoRooms}
use Rattle.queue_claims.proofs.Bytes.{answers, verdict}
use Rattle.queue_claims.proofs.Calls.{same_queue, roll_long, call_answers, call_verdict}

-- ---- the whole call
pub queue_in_order : QueueInOrder
unfolding QueueInOrder
queue_in_order key rounds roll grants block right out =
    (ordered (queue_tries key rounds grants block right out) refl, ordered (call_queue_tries key rounds roll grants block right out) refl)

pub refused_queue_keeps : RefusedQueueKeeps
unfolding RefusedQueueKeeps queue_output call_queue_output
refused_queue_keeps key rounds roll bytes grants block right out = (
  λ h. sym (kept (queue_number key rounds grants block right out) (queue_answers key rounds roll grants block right) out h),
  λ h. sym (kept (call_queue_number key rounds bytes grants block right out) (queue_answers key rounds (roll_of bytes) grants block right) out h),
)

-- ---- each byte
pub bytes_are_checks : BytesAreChecks
unfolding BytesAreChecks
bytes_are_checks = answers

pub bytes_are_verdicts : BytesAreVerdicts
unfolding BytesAreVerdicts
bytes_are_verdicts = verdict

-- ---- revocation in a queue
-- what opens nothing when it is checked alone opens nowhere in a queue
pub nowhere : (key : List ℕ) (rounds : ℕ) (roll : Roll) (grant : List ℕ) → OpensNothing key rounds roll grant → OpensNowhere key rounds roll grant
nowhere key rounds roll grant n grants block right out e i h g z =
    let a = answers key rounds roll grants block right out e in
    n block right (ap (λ (x : List ℕ). check_number key rounds roll x block right) (sym g) ∙ sym (a.each i h) ∙ z)

pub queue_after_withdrawal : QueueAfterWithdrawal
unfolding QueueAfterWithdrawal CallsCount
queue_after_withdrawal roll is contractor w key rounds grant named =
    nowhere key rounds (withdrawn_roll roll contractor) grant (λ block right e.
    true≢false (sym (stands key rounds (withdrawn_roll roll contractor) grant block right e)
    ∙ ap (λ (c : ℕ). in_standing (count_of (withdrawn_roll roll contractor) c)) named ∙ ((calls_count roll is contractor).withdrawn w).1))

pub queue_revoked_earlier : QueueRevokedEarlier
unfolding QueueRevokedEarlier EarlierNeverOpens
queue_revoked_earlier key rounds roll contractor grant g is hs w =
    nowhere key rounds _ _ (earlier_never_opens key rounds roll contractor grant g is hs w)

pub queue_revoked_earlier_in_two_rooms : QueueRevokedEarlierInTwoRooms
unfolding QueueRevokedEarlierInTwoRooms EarlierInTwoRooms
queue_revoked_earlier_in_two_rooms key rounds roll contractor grant g is xs ys zs m w =
    nowhere key rounds _ _ (earlier_in_two_rooms key rounds roll contractor grant g is xs ys zs m w)

pub queue_revoked : QueueRevoked
unfolding QueueRevoked RevokedNeverOpens
queue_revoked key rounds roll contractor block right out i is hs w =
    nowhere key rounds _ _ (revoked_never_opens key rounds roll contractor block right out i is hs w)

pub queue_revoked_in_two_rooms : QueueRevokedInTwoRooms
unfolding QueueRevokedInTwoRooms RevokedInTwoRooms
queue_revoked_in_two_rooms key rounds roll contractor block right out i is xs ys zs m w =
    nowhere key rounds _ _ (revoked_in_two_rooms key rounds roll contractor block right out i is xs ys zs m w)

-- ---- the C call
pub call_bytes_are_checks : CallBytesAreChecks
unfolding CallBytesAreChecks
call_bytes_are_checks = call_answers

pub call_is_queue : CallIsQueue
unfolding CallIsQueue
call_is_queue = same_queue

pub call_bytes_are_verdicts : CallBytesAreVerdicts
unfolding CallBytesAreVerdicts
call_bytes_are_verdicts = call_verdict

-- what opens nowhere on the roll that bytes hold opens nowhere on the bytes
read_nowhere : (key : List ℕ) (rounds : ℕ) (roll grant : List ℕ) → OpensNowhere key rounds (roll_of roll) grant → CallOpensNowhere key rounds roll grant
read_nowhere key rounds roll grant n grants block right out e i h g z =
    let s = same_queue key rounds roll grants block right out (roll_long key rounds roll grants block right out e) in
    n grants block right out (sym s.number ∙ e) i h g (sym (ap (λ (l : List ℕ). get_or l i 0) s.output) ∙ z)

pub call_queue_after_withdrawal : CallQueueAfterWithdrawal
unfolding CallQueueAfterWithdrawal QueueAfterWithdrawal called changed
call_queue_after_withdrawal roll bytes contractor w key rounds grant named =
    let l = withdraw_tries contractor (count_of (roll_of roll) contractor) in
    let p = all_pass (withdraw_call_tries roll contractor) refl w in
    let long = eqb-true (length roll) roll_length p.0 in
    let once = sym (first_then (roll_tries (length roll)) l (p.0, tt)) ∙ w in
    read_nowhere key rounds (withdraw_call_roll roll contractor) grant
    (subst⁻¹ (λ (r : Roll). OpensNowhere key rounds r grant) (call_holds (withdraw contractor) roll bytes long).read
    (queue_after_withdrawal (roll_of roll) (is_roll roll bytes long) contractor once key rounds grant named))

-- a refusal of the check is no byte of 0
refused_byte : (code : ℕ) → 1 ≤ code → code ≤ 999 → as_byte code ≡ 0 → ⊥
refused_byte code least most z =
    let e = sym (ap (λ (b : Bool). cond b 0 code) (lt-leb 1000 code (omega arith))) ∙ z in omega (arith, e, least)

pub call_nowhere : (key : List ℕ) (rounds : ℕ) (roll grant : List ℕ) → Refuses key rounds roll grant → CallOpensNowhere key rounds roll grant
call_nowhere key rounds roll grant r grants block right out e i h g z =
    let n = r block right in
    refused_byte (call_code key rounds roll grant block right) n.0 n.1
    (ap (λ (x : List ℕ). as_byte (call_code key rounds roll x block right)) (sym g)
    ∙ sym ((call_answers key rounds roll grants block right out e).each i h) ∙ z)

pub call_queue_revoked_earlier : CallQueueRevokedEarlier
unfolding CallQueueRevokedEarlier CallsRevokeEarlier
call_queue_revoked_earlier key rounds roll small long contractor grant g hs w =
    call_nowhere key rounds _ _ (calls_revoke_earlier key rounds roll small long contractor grant g hs w)

pub call_queue_revoked_earlier_in_two_rooms : CallQueueRevokedEarlierInTwoRooms
unfolding CallQueueRevokedEarlierInTwoRooms CallsRevokeEarlierInTwoRooms
call_queue_revoked_earlier_in_two_rooms key rounds roll small long contractor grant g xs ys zs m w =
    call_nowhere key rounds _ _ (calls_revoke_earlier_in_two_rooms key rounds roll small long contractor grant g xs ys zs m w)

pub call_queue_revoked : CallQueueRevoked
unfolding CallQueueRevoked CallsRevoke
call_queue_revoked key rounds roll contractor block right out i hs w =
    call_nowhere key rounds _ _ (calls_revoke key rounds roll contractor block right out i hs w)

pub call_queue_revoked_in_two_rooms : CallQueueRevokedInTwoRooms
unfolding CallQueueRevokedInTwoRooms CallsRevokeInTwoRooms
call_queue_revoked_in_two_rooms key rounds roll contractor block right out i xs ys zs m w =
    call_nowhere key rounds _ _ (calls_revoke_in_two_rooms key rounds roll contractor block right out i xs ys zs m w)
