-- That no call passes which is asked for size block 0, and that no check does of a grant that names it.
use mathlib.Core.Path.{◌≡◌, refl, sym, ◌∙◌}
use mathlib.Core.Bool.{true, ◌&&◌}
use mathlib.Core.List.{List, []}
use Prim.Native.Nat.{ℕ, ◌<◌}
use lib.Dec.{eqb}
use lib.ListN.{length}
use borrow.Author.Tests.{eqb-true, eq-eqb, ne_eqb}
use Rattle.refusal.proofs.Tries.{first_then, first_passes, first_holds}
use Rattle.refusal.proofs.Ladder.{some-given}
use Rattle.refusal.proofs.Answers.{kept}
use Rattle.size_blocks.proofs.SizeBlocks.{is-size_block, other_than_zero}
use Rattle.roll.specs.declared.Roll.{Roll}
use Rattle.roll.specs.Roll.{entry_of}
use Rattle.roll_bytes.specs.RollBytes.{roll_length, roll_of}
use Rattle.pages.specs.Pages.{cleared}
use Rattle.grant.specs.Grants.{size_block_in, is_grant}
use Rattle.issuing.specs.Issuing.{issue_tries, issue_number, issued_grant, issue_output}
use Rattle.issuing.proofs.Passed.{wanted_passed}
use Rattle.judging.specs.Judging.{input_tries, plain_tries}
use Rattle.judging.proofs.Passed.{input_passes}
use Rattle.checking.specs.Checking.{opened_grant, entry_now, check_number}
use Rattle.issue_call.specs.IssueCall.{issue_call_tries, issue_call_number, issue_call_output}
use Rattle.queue_parts.specs.QueueParts.{queue_length}
use Rattle.queue_parts.proofs.Passed.{queue_passed}
use Rattle.queue.specs.Queue.{queue_tries, queue_number, queue_answers, queue_output}
use Rattle.queue_call.specs.QueueCall.{call_queue_tries, call_queue_number, call_queue_output}
use Rattle.sealing.specs.Sealing.{seal_tries, seal_number, sealed, seal_output, seal_scratch}
use Rattle.revocation.specs.Claims.{OpensNothing}
use Rattle.revocation.proofs.Checks.{passed}
use Rattle.block_zero.specs.Claims.{Asked}

pub no_check : (key : List ℕ) (rounds : ℕ) (roll : Roll) (grant : List ℕ) (right : ℕ) → check_number key rounds roll grant 0 right ≡ 0 → ⊥
no_check key rounds roll grant right e = other_than_zero 0 (passed key rounds roll grant 0 right e).0.some_block refl

-- ---- calls that would write: some number is given, and nothing is written
pub no_queue : (key : List ℕ) (rounds : ℕ) (roll : Roll) (grants : List ℕ) (right : ℕ) (out : List ℕ)
    → (0 < queue_number key rounds grants 0 right out) × (queue_output key rounds roll grants 0 right out ≡ out)
unfolding queue_output
no_queue key rounds roll grants right out =
    let n = length grants in
    let h = some-given (queue_tries key rounds grants 0 right out) refl
    (λ p. other_than_zero 0 (queue_passed (length key) rounds (queue_length n) n (length out) 0 right p).some_block refl) in
    (h, sym (kept (queue_number key rounds grants 0 right out) (queue_answers key rounds roll grants 0 right) out h))

pub no_queue_call : (key : List ℕ) (rounds : ℕ) (roll grants : List ℕ) (right : ℕ) (out : List ℕ)
    → (0 < call_queue_number key rounds roll grants 0 right out) × (call_queue_output key rounds roll grants 0 right out ≡ out)
unfolding call_queue_output
no_queue_call key rounds roll grants right out =
    let n = length grants in
    let lengths = eqb (length roll) roll_length && queue_length n in
    let h = some-given (call_queue_tries key rounds roll grants 0 right out) refl
    (λ p. other_than_zero 0 (queue_passed (length key) rounds lengths n (length out) 0 right p).some_block refl) in
    (h, sym (kept (call_queue_number key rounds roll grants 0 right out) (queue_answers key rounds (roll_of roll) grants 0 right) out h))

pub no_issue : (key : List ℕ) (rounds : ℕ) (roll : Roll) (c right : ℕ) (out : List ℕ)
    → (0 < issue_number key rounds roll c 0 right out) × (issue_output key rounds roll c 0 right out ≡ out)
unfolding issue_output
no_issue key rounds roll c right out =
    let h = some-given (issue_tries key rounds roll c 0 right out) refl
    (λ p. other_than_zero 0 (wanted_passed (length out) c 0 right (entry_of roll c) p.1.1).some_block refl) in
    (h, sym (kept (issue_number key rounds roll c 0 right out) (issued_grant key rounds roll c 0 right) out h))

pub no_issue_call : (key : List ℕ) (rounds : ℕ) (roll : List ℕ) (c right : ℕ) (out : List ℕ)
    → (0 < issue_call_number key rounds roll c 0 right out) × (issue_call_output key rounds roll c 0 right out ≡ out)
unfolding issue_call_output
no_issue_call key rounds roll c right out =
    let h = some-given (issue_call_tries key rounds roll c 0 right out) refl
    (λ p. other_than_zero 0 (wanted_passed (length out) c 0 right (entry_of (roll_of roll) c) p.1.1.1).some_block refl) in
    (h, sym (kept (issue_call_number key rounds roll c 0 right out) (issued_grant key rounds (roll_of roll) c 0 right) out h))

pub no_seal : (key₁ key₂ : List ℕ) (rounds number : ℕ) (payload scratch out : List ℕ)
    → (0 < seal_number key₁ key₂ rounds 0 payload scratch out)
    × ((seal_output key₁ key₂ rounds 0 number payload scratch out ≡ out) × (seal_scratch key₁ key₂ rounds 0 payload scratch out ≡ scratch))
unfolding seal_output seal_scratch
no_seal key₁ key₂ rounds number payload scratch out =
    let n = seal_number key₁ key₂ rounds 0 payload scratch out in
    let h = some-given (seal_tries key₁ key₂ rounds 0 payload scratch out) refl (λ p. other_than_zero 0 p.1.1.1.0 refl) in
    (h, (sym (kept n (sealed key₁ key₂ rounds 0 number payload) out h), sym (kept n cleared scratch h)))

-- ---- a grant that names it
pub names_zero : (key : List ℕ) (rounds : ℕ) (roll : Roll) (grant : List ℕ) → size_block_in (opened_grant key rounds grant) ≡ 0
    → OpensNothing key rounds roll grant
names_zero key rounds roll grant z block right e =
    let h = passed key rounds roll grant block right e in
    other_than_zero block h.0.some_block (sym (eqb-true (size_block_in (opened_grant key rounds grant)) block h.1.same_block) ∙ z)

-- asked for another size block
pub other_block : (key : List ℕ) (rounds : ℕ) (roll : Roll) (grant : List ℕ) (block right : ℕ) → Asked key rounds grant right
    → is_grant (opened_grant key rounds grant) ≡ true → size_block_in (opened_grant key rounds grant) ≡ 0 → (block ≡ 0 → ⊥)
    → check_number key rounds roll grant block right ≡ 9
other_block key rounds roll grant block right a whole z other =
    let p = opened_grant key rounds grant in
    let twelve = eqb (length grant) 12 in
    first_then (input_tries (length key) rounds twelve block right) (plain_tries p (entry_now key rounds roll grant) block right)
    (input_passes (length key) rounds twelve block right []
    record {
      key-length = a.key-length;
      round-count = a.round-count;
      long = eq-eqb (length grant) 12 a.twelve;
      asked = a.known_right;
      some_block = is-size_block block other;
    } tt)
    ∙ first_passes _ _ whole ∙ first_holds _ _ (ne_eqb (size_block_in p) block (λ e. other (sym e ∙ z)))
