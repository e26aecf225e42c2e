-- A term of each type of specs/Claims.antt.
use mathlib.Core.Path.{◌≡◌, refl, ap, ap₂, ◌∙◌}
use mathlib.Core.Bool.{Bool, true, ◌&&◌}
use mathlib.Core.List.{List, [], ◌∷◌}
use Prim.Native.Nat.{ℕ, ◌<◌}
use native.Mathlib.Omega.{arith}
use lib.Dec.{eqb, leb}
use lib.ListN.{length, get_or, replicate}
use lib.Seq.{take_all}
use borrow.Author.Tests.{eq-eqb}
use Rattle.refusal.specs.Tries.{first, written, answered}
use Rattle.refusal.proofs.Tries.{none-given}
use Rattle.size_blocks.proofs.SizeBlocks.{is-size_block}
use Rattle.rights.specs.Rights.{is_right}
use Rattle.roll.specs.declared.Roll.{Roll}
use Rattle.roll.specs.Roll.{empty_roll, count_of, figure_of, in_standing, with_entry}
use Rattle.roll_changes.specs.Changes.{enter_tries, entered_roll, changed_roll}
use Rattle.roll_bytes.specs.RollBytes.{roll_length, counts_of, roll_of, counts_bytes, roll_bytes}
use Rattle.histories.specs.Histories.{enter, change, withdraw, changed}
use Rattle.grant.specs.Grants.{contractor_in}
use Rattle.issuing.specs.Issuing.{issue_number}
use Rattle.issue_call.specs.IssueCall.{issue_call_number}
use Rattle.checking.specs.Checking.{opened_grant}
use Rattle.revocation.specs.Claims.{IssuedOpens}
use Rattle.revocation.proofs.Claims.{issued-opens}
use Rattle.revocation.proofs.Issued.{issued-twelve}
use Rattle.demotion.specs.Claims.{DemotionHappens}
use Rattle.demotion.proofs.Demoted.{never_overwrites, named_by}
use Rattle.demotion.proofs.Claims.{demotion_happens}
use Rattle.roll_calls.specs.RollCalls.{enter_call_number, enter_call_roll, change_call_number, change_call_roll}
use Rattle.call_claims.specs.CallHistories.{called, bytes_after, CallWithdrawn, later, CallRaised, by_entering, raised-later}
use Rattle.check_call.specs.CheckCall.{call_code}
use Rattle.queue_parts.specs.QueueParts.{queue_length, grants_in}
use Rattle.queue_parts.proofs.Passed.{queue_passes}
use Rattle.queue_call.specs.QueueCall.{call_queue_tries, call_queue_output}
use Rattle.call_claims.specs.Claims.{Holds, bytes_with7}
use Rattle.call_claims.proofs.Stored.{passes_roll, call_holds}
use Rattle.queue_claims.specs.Claims.{as_byte}
use Rattle.queue_claims.proofs.Calls.{call_answers}
use Rattle.call_claims.proofs.Claims.{holds_7, issued_7, issued, given, checks}
use Rattle.call_demotion.specs.Claims.{CallCountsNeverFall, CallsMoveNoCount, CallsLeaveOthers, QueueDemoted, CallsDemote, CallDemotedIsAbove}
use Rattle.call_demotion.specs.Claims.{CallsStillRead, CallRaisedAsBefore, CallTwentyFiveExactlyAbove, CallIssueTwentyFiveExactlyAbove}
use Rattle.call_demotion.specs.Claims.{grant_to7, CallsDemoteSomething}
use Rattle.call_demotion.proofs.Calls.{counts_grow, same_counts, others_stay, queues, call_never_overwrites, call_above, call_reads, call_raises}
use Rattle.call_demotion.proofs.Calls.{call_twenty_five, call_is_above, issue-read, call_issue_twenty_five, call_issue_is_above}

pub call_counts_never_fall : CallCountsNeverFall
unfolding CallCountsNeverFall
call_counts_never_fall = counts_grow

pub calls_move_no_count : CallsMoveNoCount
unfolding CallsMoveNoCount
calls_move_no_count = same_counts

pub calls_leave_others : CallsLeaveOthers
unfolding CallsLeaveOthers
calls_leave_others = others_stay

pub queue_demoted : QueueDemoted
unfolding QueueDemoted
queue_demoted roll is c e hs n = queues _ c (never_overwrites roll is c e hs n)

pub calls_demote : CallsDemote
unfolding CallsDemote
calls_demote = call_never_overwrites

pub call_demoted_is_above : CallDemotedIsAbove
unfolding CallDemotedIsAbove
call_demoted_is_above roll small c e hs m n = call_above roll small c e hs n m

pub calls_still_read : CallsStillRead
unfolding CallsStillRead
calls_still_read roll small c e hs n = call_reads roll small c e hs n

pub call_raised_as_before : CallRaisedAsBefore
unfolding CallRaisedAsBefore
call_raised_as_before roll small c two e hs n = call_raises roll small c e hs n two

pub call_twenty_five_exactly_above : CallTwentyFiveExactlyAbove
unfolding CallTwentyFiveExactlyAbove
call_twenty_five_exactly_above key rounds roll grant block right =
    (call_twenty_five key rounds roll grant block right, call_is_above key rounds roll grant block right)

pub call_issue_twenty_five_exactly_above : CallIssueTwentyFiveExactlyAbove
unfolding CallIssueTwentyFiveExactlyAbove
call_issue_twenty_five_exactly_above key rounds roll c block right out =
    (call_issue_twenty_five key rounds roll c block right out, call_issue_is_above key rounds roll c block right out)

-- ---- the example
-- what contractor 7 has on the bytes, computed
demoted_7 : change_call_number bytes_with7 7 1 ≡ 0
unfolding bytes_after called enter_call_roll first written answered roll_of counts_of roll_bytes counts_bytes empty_roll count_of in_standing
    with_entry entered_roll
demoted_7 = refl

overwriting_7 : figure_of (roll_of bytes_with7) 7 ≡ 2
unfolding bytes_after called enter_call_roll first written answered roll_of counts_of roll_bytes counts_bytes empty_roll count_of figure_of
    in_standing with_entry
    entered_roll
overwriting_7 = refl

-- the grant names contractor 7
named_7 : contractor_in (opened_grant (replicate 12 0) 10 grant_to7) ≡ 7
unfolding IssuedOpens
named_7 =
    let key : List ℕ = replicate 12 0 in
    let roll = roll_of bytes_with7 in
    let i = issued_7 2 refl in
    let opens = (issued-opens key 10 roll 7 300 2 key (issued key 10 bytes_with7 7 300 2 key i)).opens in
    ap (λ (g : List ℕ). contractor_in (opened_grant key 10 g)) (given key 10 bytes_with7 7 300 2 key i) ∙ named_by key 10 roll _ 300 2 7 opens

raised_by_none : {roll : List ℕ} → CallRaised 7 [] roll → ⊥
raised_by_none = elim [ ]

raised_by_withdrawing : {roll : List ℕ} → CallRaised 7 (withdraw 7 ∷ []) roll → ⊥
raised_by_withdrawing (raised-later w) = raised_by_none w

-- 7 is in standing on the demoted bytes: so entering is refused
low_7 : Holds (change_call_roll bytes_with7 7 1) (changed_roll (roll_of bytes_with7) 7 1)
unfolding called changed
low_7 = call_holds (change 7 1) bytes_with7 holds_7.small holds_7.long

low_count_7 : count_of (roll_of (change_call_roll bytes_with7 7 1)) 7 ≡ 1
unfolding count_of bytes_after called enter_call_roll first written answered roll_of counts_of roll_bytes counts_bytes empty_roll in_standing
    with_entry entered_roll
low_count_7 = ap (λ (ns : List ℕ). get_or ns 6 0) (same_counts bytes_with7 holds_7.small holds_7.long 7 1)

refused_7 : enter_call_number (change_call_roll bytes_with7 7 1) 7 2 ≡ 21
unfolding first in_standing
refused_7 =
    passes_roll (change_call_roll bytes_with7 7 1) low_7.long (enter_tries 7 2 (count_of (roll_of (change_call_roll bytes_with7 7 1)) 7))
    ∙ ap (λ (n : ℕ). first (enter_tries 7 2 n)) low_count_7

not_raised_7 : CallRaised 7 (enter 7 2 ∷ withdraw 7 ∷ []) (change_call_roll bytes_with7 7 1) → ⊥
not_raised_7 (by_entering e) = omega (arith, e, refused_7)
not_raised_7 (raised-later w) = raised_by_withdrawing w

withdrawn_by_none : {roll : List ℕ} → CallWithdrawn 7 [] roll → ⊥
withdrawn_by_none = elim [ ]

not_withdrawn_7 : CallWithdrawn 7 (change 7 2 ∷ enter 8 1 ∷ []) (change_call_roll bytes_with7 7 1) → ⊥
not_withdrawn_7 (later (later w)) = withdrawn_by_none w

-- an issue for overwriting on the demoted bytes is one on the demoted roll
not_issued_7 : issue_call_number (replicate 12 0) 10 (change_call_roll bytes_with7 7 1) 7 300 2 (replicate 12 0) ≡ 25
unfolding DemotionHappens
not_issued_7 =
    let key : List ℕ = replicate 12 0 in
    issue-read key 10 (change_call_roll bytes_with7 7 1) 7 300 2 key low_7.long
    ∙ ap (λ (r : Roll). issue_number key 10 r 7 300 2 key) (low_7.read ∙ ap (λ (r : Roll). changed_roll r 7 1) holds_7.read)
    ∙ demotion_happens.not_issued

-- the byte of the grant, alone in a queue on a roll's bytes, is the check's answer
twelve_7 : length grant_to7 ≡ 12
twelve_7 =
    let key : List ℕ = replicate 12 0 in
    ap length (given key 10 bytes_with7 7 300 2 key (issued_7 2 refl)) ∙ issued-twelve key 10 (roll_of bytes_with7) 7 300 2

alone : (roll : List ℕ) → length roll ≡ roll_length → (right code : ℕ) → is_right right ≡ true
    → call_code (replicate 12 0) 10 roll grant_to7 300 right ≡ code
    → get_or (call_queue_output (replicate 12 0) 10 roll grant_to7 300 right (0xFF ∷ [])) 0 0 ≡ as_byte code
alone roll long right code q e =
    let key : List ℕ = replicate 12 0 in
    let out : List ℕ = 0xFF ∷ [] in
    let l = ap₂ (λ (a : Bool) (n : ℕ). a && queue_length n) (eq-eqb (length roll) roll_length long) twelve_7 in
    let room = ap (λ (n : ℕ). leb (grants_in n) 1) twelve_7 in
    let some = is-size_block 300 (λ e. omega (arith, e)) in
    let n = length grant_to7 in
    let z = none-given (call_queue_tries key 10 roll grant_to7 300 right out)
    (queue_passes 12 10 (eqb (length roll) roll_length && queue_length n) n 1 300 right
    record { key-length = refl; round-count = refl; long = l; fits = room; asked = q; some_block = some }) in
    let h : 0 < grants_in (length grant_to7) = omega (arith, ap grants_in twelve_7) in
    (call_answers key 10 roll grant_to7 300 right out z).each 0 h
    ∙ ap as_byte (ap (λ (g : List ℕ). call_code key 10 roll g 300 right) (take_all 12 grant_to7 (omega (arith, twelve_7))) ∙ e)

pub calls_demote_something : CallsDemoteSomething
unfolding CallsDemoteSomething bytes_after called
calls_demote_something =
    let key : List ℕ = replicate 12 0 in
    let c = checks key 10 bytes_with7 7 300 2 key (issued_7 2 refl) in
    let b = holds_7.small in
    let above = call_above bytes_with7 b 7 demoted_7 [] withdrawn_by_none raised_by_none key 10 grant_to7 300 named_7 (omega (arith, c.opens)) in
    let again = call_raises bytes_with7 b 7 demoted_7 [] withdrawn_by_none overwriting_7 in
    let reads = (call_reads bytes_with7 b 7 demoted_7 [] withdrawn_by_none).checks key 10 grant_to7 300 named_7 ∙ c.looks refl in
    record {
      opens = (c.opens, alone bytes_with7 holds_7.long 2 2007 refl c.opens);
      demoted = demoted_7;
      above = (above, alone (change_call_roll bytes_with7 7 1) low_7.long 2 25 refl above);
      not_issued = not_issued_7;
      reads = (reads, alone (change_call_roll bytes_with7 7 1) low_7.long 1 1007 refl reads);
      raises = again.number;
      raised = again.checks key 10 grant_to7 300 2 named_7 ∙ c.opens;
      not_raised = not_raised_7;
      not_withdrawn = not_withdrawn_7;
    }
