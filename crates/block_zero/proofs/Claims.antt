-- A term of each type of specs/Claims.antt.
use mathlib.Core.Path.{◌≡◌, refl, sym, ap, ◌∙◌}
use mathlib.Core.Bool.{true}
use mathlib.Core.List.{List, []}
use Prim.Native.Nat.{ℕ, ◌≤◌}
use native.Mathlib.Omega.{arith}
use lib.Dec.{lit<}
use lib.ListN.{length, get_or, replicate, length-replicate}
use Rattle.refusal.specs.Tries.{first, answered}
use Rattle.roll.specs.Roll.{empty_roll, count_of, figure_of, in_standing, with_entry}
use Rattle.roll_changes.specs.Changes.{entered_roll}
use Rattle.histories.proofs.Calls.{zeros-small}
use Rattle.grant.specs.Grants.{plain_grant, contractor_in, size_block_in, is_marked, is_grant}
use Rattle.checking.specs.Checking.{opened_grant}
use Rattle.revocation.specs.Claims.{roll7}
use Rattle.revocation.proofs.Issued.{deciphers, issued-twelve}
use Rattle.size_blocks.proofs.SizeBlocks.{other_than_zero}
use Rattle.queue_parts.specs.QueueParts.{grant_at}
use Rattle.queue_parts.proofs.Answers.{grant-length}
use Rattle.call_claims.proofs.Opens.{call_refuses, call_refused}
use Rattle.queue_claims.proofs.Bytes.{passed, answers}
use Rattle.queue_claims.proofs.Calls.{same_queue, roll_long}
use Rattle.queue_claims.proofs.Claims.{nowhere, call_nowhere}
use Rattle.page_claims.specs.Claims.{PageSettings, OpensWhatWasSealed}
use Rattle.page_claims.proofs.Claims.{opens_what_was_sealed}
use Rattle.page_claims.proofs.Pages.{fourteen}
use Rattle.block_zero.specs.Claims.{NothingOpensForZero, CallNothingOpensForZero, QueueNothingForZero, CallQueueNothingForZero}
use Rattle.block_zero.specs.Claims.{NoneIssuedForZero, CallNoneIssuedForZero, NoneSealedForZero}
use Rattle.block_zero.specs.Claims.{NamesZeroOpensNothing, CallNamesZeroRefused, NamesZeroOpensNowhere, NamesZeroIsOtherBlock}
use Rattle.block_zero.specs.Claims.{CallNamesZeroIsOtherBlock, QueueNamesZeroIsOtherBlock, CallQueueNamesZeroIsOtherBlock}
use Rattle.block_zero.specs.Claims.{FourteenExactlyForZero, CallFourteenExactlyForZero, QueueFourteenExactlyForZero}
use Rattle.block_zero.specs.Claims.{CallQueueFourteenExactlyForZero, IssueFourteenExactlyForZero, CallIssueFourteenExactlyForZero}
use Rattle.block_zero.specs.Claims.{SealFourteenExactlyForZero, PagesForZeroOpen, Asked, zero_grant, BlockZeroHappens}
use Rattle.block_zero.proofs.Nothing.{no_check, no_queue, no_queue_call, no_issue, no_issue_call, no_seal, names_zero, other_block}
use Rattle.block_zero.proofs.Fourteen.{check_only, check_there, call_only, call_there, queue_only, queue_there, queue_call_only, queue_call_there}
use Rattle.block_zero.proofs.Fourteen.{issue_only, issue_there, issue_call_only, issue_call_there, seal_only}

-- ---- nothing opens, is issued or is sealed
pub nothing_opens_for_zero : NothingOpensForZero
unfolding NothingOpensForZero
nothing_opens_for_zero = no_check

pub call_nothing_opens_for_zero : CallNothingOpensForZero
unfolding CallNothingOpensForZero
call_nothing_opens_for_zero key rounds roll grant right = call_refuses key rounds roll grant 0 right (no_check key rounds _ grant right)

pub queue_nothing_for_zero : QueueNothingForZero
unfolding QueueNothingForZero
queue_nothing_for_zero = no_queue

pub call_queue_nothing_for_zero : CallQueueNothingForZero
unfolding CallQueueNothingForZero
call_queue_nothing_for_zero = no_queue_call

pub none_issued_for_zero : NoneIssuedForZero
unfolding NoneIssuedForZero
none_issued_for_zero = no_issue

pub call_none_issued_for_zero : CallNoneIssuedForZero
unfolding CallNoneIssuedForZero
call_none_issued_for_zero = no_issue_call

pub none_sealed_for_zero : NoneSealedForZero
unfolding NoneSealedForZero
none_sealed_for_zero = no_seal

-- ---- grants that name it
pub names_zero_opens_nothing : NamesZeroOpensNothing
unfolding NamesZeroOpensNothing
names_zero_opens_nothing = names_zero

pub call_names_zero_refused : CallNamesZeroRefused
unfolding CallNamesZeroRefused
call_names_zero_refused key rounds roll grant z block right =
    call_refuses key rounds roll grant block right (names_zero key rounds _ grant z block right)

pub names_zero_opens_nowhere : NamesZeroOpensNowhere
unfolding NamesZeroOpensNowhere CallNamesZeroRefused
names_zero_opens_nowhere key rounds grant z = (
  λ roll. nowhere key rounds roll grant (names_zero key rounds roll grant z),
  λ roll. call_nowhere key rounds roll grant (call_names_zero_refused key rounds roll grant z),
)

pub names_zero_is_other_block : NamesZeroIsOtherBlock
unfolding NamesZeroIsOtherBlock
names_zero_is_other_block = other_block

pub call_names_zero_is_other_block : CallNamesZeroIsOtherBlock
unfolding CallNamesZeroIsOtherBlock
call_names_zero_is_other_block key rounds roll grant block right l a whole z other =
    call_refused key rounds roll grant block right l 9 (lit< tt) (other_block key rounds _ grant block right a whole z other)

-- what passed of a queue is what a check of a grant in it has to pass
pub queue_names_zero_is_other_block : QueueNamesZeroIsOtherBlock
unfolding QueueNamesZeroIsOtherBlock
queue_names_zero_is_other_block key rounds roll grants block right out e i h whole z =
    let t = passed key rounds roll grants block right out e in
    (answers key rounds roll grants block right out e).each i h
    ∙ other_block key rounds roll (grant_at grants i) block right
    record { key-length = t.key-length; round-count = t.round-count; twelve = grant-length grants i h; known_right = t.asked }
    whole z (other_than_zero block t.some_block)

pub call_queue_names_zero_is_other_block : CallQueueNamesZeroIsOtherBlock
unfolding CallQueueNamesZeroIsOtherBlock QueueNamesZeroIsOtherBlock
call_queue_names_zero_is_other_block key rounds roll grants block right out e i h whole z =
    let s = same_queue key rounds roll grants block right out (roll_long key rounds roll grants block right out e) in
    ap (λ (l : List ℕ). get_or l i 0) s.output
    ∙ queue_names_zero_is_other_block key rounds _ grants block right out (sym s.number ∙ e) i h whole z

-- ---- when 14 is given
pub fourteen_exactly_for_zero : FourteenExactlyForZero
unfolding FourteenExactlyForZero
fourteen_exactly_for_zero key rounds roll grant block right =
    (check_only key rounds grant right roll block, check_there key rounds grant right roll block)

pub call_fourteen_exactly_for_zero : CallFourteenExactlyForZero
unfolding CallFourteenExactlyForZero
call_fourteen_exactly_for_zero key rounds roll grant block right =
    (call_only key rounds grant right roll block, call_there key rounds grant right roll block)

pub queue_fourteen_exactly_for_zero : QueueFourteenExactlyForZero
unfolding QueueFourteenExactlyForZero
queue_fourteen_exactly_for_zero key rounds grants block right out =
    (queue_only key rounds grants block right out, queue_there key rounds grants block right out)

pub call_queue_fourteen_exactly_for_zero : CallQueueFourteenExactlyForZero
unfolding CallQueueFourteenExactlyForZero
call_queue_fourteen_exactly_for_zero key rounds roll grants block right out =
    (queue_call_only key rounds grants block right out roll, queue_call_there key rounds grants block right out roll)

pub issue_fourteen_exactly_for_zero : IssueFourteenExactlyForZero
unfolding IssueFourteenExactlyForZero
issue_fourteen_exactly_for_zero key rounds roll c block right out =
    (issue_only key rounds c block right out roll, issue_there key rounds c block right out roll)

pub call_issue_fourteen_exactly_for_zero : CallIssueFourteenExactlyForZero
unfolding CallIssueFourteenExactlyForZero
call_issue_fourteen_exactly_for_zero key rounds roll c block right out =
    (issue_call_only key rounds c block right out roll, issue_call_there key rounds c block right out roll)

pub seal_fourteen_exactly_for_zero : SealFourteenExactlyForZero
unfolding SealFourteenExactlyForZero
seal_fourteen_exactly_for_zero key₁ key₂ rounds block payload scratch out =
    (seal_only key₁ key₂ rounds block payload scratch out, fourteen key₁ key₂ rounds block payload scratch out)

-- ---- pages that were sealed for it
pub pages_for_zero_open : PagesForZeroOpen
unfolding PagesForZeroOpen OpensWhatWasSealed
pages_for_zero_open key₁ key₂ bk rounds s number hn payload bp fits scratch out hs ho =
    opens_what_was_sealed key₁ key₂ bk rounds s 0 number (lit< tt) hn payload bp fits scratch out hs ho

-- ---- all of this happens
abbrev key : List ℕ
key = replicate 12 0

abbrev key₂ : List ℕ
key₂ = replicate 12 1

names : opened_grant key 10 zero_grant ≡ plain_grant 7 1 0 2
unfolding answered first empty_roll count_of figure_of in_standing with_entry entered_roll
names = deciphers key 10 record { bytes = zeros-small (lit< tt) 12; length_allowed = refl; rounds_are_allowed = refl } roll7 7 0 2 (lit< tt)

asked : Asked key 10 zero_grant 2
asked = record { key-length = refl; round-count = refl; twelve = issued-twelve key 10 roll7 7 0 2; known_right = refl }

whole : is_grant (plain_grant 7 1 0 2) ≡ true
unfolding is_grant is_marked contractor_in plain_grant
whole = refl

names_0 : size_block_in (plain_grant 7 1 0 2) ≡ 0
unfolding size_block_in plain_grant
names_0 = refl

settings : PageSettings key key₂ 10
settings = record { key-length = refl; one_length = refl; apart = λ e. omega (arith, ap (λ (l : List ℕ). get_or l 0 0) e); round-count = refl }

pub block_zero_happens : BlockZeroHappens
unfolding BlockZeroHappens OpensWhatWasSealed
block_zero_happens =
    let zeros : ℕ → List ℕ = λ n. replicate n 0 in
    let long : (n : ℕ) → length (zeros n) ≡ n = λ n. length-replicate n 0 in
    let scratch : 576 ≤ length (zeros 576) = omega (arith, long 576) in
    record {
      names = names;
      fourteen = check_there key 10 zero_grant 2 roll7 0 asked refl;
      nine = other_block key 10 roll7 zero_grant 300 2 asked (ap is_grant names ∙ whole) (ap size_block_in names ∙ names_0) (λ e. omega (arith, e));
      not_issued = issue_there key 10 7 0 2 (replicate 12 0) roll7
          record { key-length = refl; round-count = refl; room = omega arith; known_contractor = refl; known_right = refl } refl;
      page = opens_what_was_sealed key key₂ (zeros-small (lit< tt) 12) 10 settings 0 1 (lit< tt) (lit< tt) [] (λ i. lit< tt) (omega arith) _ _ scratch
          (omega (arith, long 492));
      not_sealed = fourteen key key₂ 10 0 [] (replicate 576 0) (replicate 512 0) settings scratch (omega (arith, long 512)) refl;
    }
