-- The C call of a queue is the queue on the roll that is read, and each of its bytes is what the C call of the check answers.
use mathlib.Core.Path.{◌≡◌, refl, sym, ap, ◌∙◌, subst⁻¹}
use mathlib.Core.Bool.{Bool, true, false, cond, ◌&&◌}
use mathlib.Core.List.{List, ◌++◌}
use Prim.Native.Nat.{ℕ, ◌+◌, ◌*◌, ◌≤◌, ◌<◌}
use native.Mathlib.Omega.{arith}
use lib.Dec.{eqb}
use lib.ListN.{length, get_or, drop}
use borrow.Author.Tests.{eqb-true, eq-eqb, le-leb, lt-leb}
use Rattle.basics.proofs.Tests.{and_first}
use Rattle.refusal.specs.Tries.{first, written, answered}
use Rattle.refusal.proofs.Ladder.{all_pass, first_small}
use Rattle.roll_bytes.specs.RollBytes.{roll_length, roll_of}
use Rattle.rights.specs.Rights.{is_right}
use Rattle.grant.specs.Grants.{contractor_in}
use Rattle.rights.proofs.Rights.{right-least}
use Rattle.judging.specs.Judging.{input_tries, plain_tries}
use Rattle.checking.specs.Checking.{opened_grant, entry_now, check_number}
use Rattle.check_call.specs.CheckCall.{call_tries, call_code}
use Rattle.queue_parts.specs.QueueParts.{queue_length, grants_in, grant_at, queue_input_tries}
use Rattle.queue_parts.proofs.Passed.{QueuePassed, queue_passed}
use Rattle.queue.specs.Queue.{queue_number, queue_answers, queue_output}
use Rattle.queue_call.specs.QueueCall.{call_queue_tries, call_queue_number, call_queue_output}
use Rattle.queue_claims.specs.Claims.{VerdictByte, as_byte, CallAnswers, SameQueue}
use Rattle.queue_claims.proofs.Bytes.{answers, verdict}

-- a check's answer as a byte
byte_of : (n x : ℕ) → n < 1000 → 1000 ≤ x → as_byte (answered n x n) ≡ n
unfolding answered
byte_of n x small large = by (eqb n 0) refl
  where
    by : (b : Bool) → eqb n 0 ≡ b → as_byte (cond b x n) ≡ n
    by true e = ap (λ (b : Bool). cond b 0 x) (le-leb 1000 x large) ∙ sym (eqb-true n 0 e)
    by false e = ap (λ (b : Bool). cond b 0 n) (lt-leb 1000 n small)

module _ (key : List ℕ) (rounds : ℕ) (roll grants : List ℕ) (block right : ℕ) (out : List ℕ) where
  pub same_queue : length roll ≡ roll_length → SameQueue key rounds roll grants block right out
  unfolding call_queue_output queue_output
  same_queue l =
      let n : Bool → ℕ = λ b. first (queue_input_tries (length key) rounds (b && queue_length (length grants)) (length grants) (length out) block right) in
      let e : call_queue_number key rounds roll grants block right out ≡ queue_number key rounds grants block right out =
      ap n (eq-eqb (length roll) roll_length l) in
      record { number = e; output = ap (λ (n : ℕ). written n (queue_answers key rounds (roll_of roll) grants block right) out) e }

  module _ (e : call_queue_number key rounds roll grants block right out ≡ 0) where
    -- what passed: the roll's length, and the right
    tried : QueuePassed (length key) rounds (eqb (length roll) roll_length && queue_length (length grants)) (length grants) (length out) block right
    tried = queue_passed _ _ _ _ _ _ _ (all_pass (call_queue_tries key rounds roll grants block right out) refl e)

    pub roll_long : length roll ≡ roll_length
    roll_long = eqb-true (length roll) roll_length (and_first (eqb (length roll) roll_length) (queue_length (length grants)) tried.long)

    right-asked : is_right right ≡ true
    right-asked = tried.asked

    -- the number of the C call of the check is the check's
    code_byte : (grant : List ℕ) → as_byte (call_code key rounds roll grant block right) ≡ check_number key rounds (roll_of roll) grant block right
    unfolding call_code
    code_byte grant =
        let ts = call_tries key rounds roll grant block right in
        let p = opened_grant key rounds grant in
        let n : Bool → ℕ = λ b.
        first (input_tries (length key) rounds (b && eqb (length grant) 12) block right
        ++ plain_tries p (entry_now key rounds (roll_of roll) grant) block right) in
        byte_of (first ts) (1000 * right + contractor_in p) (first_small 1000 ts refl) (omega (arith, right-least right right-asked))
        ∙ ap n (eq-eqb (length roll) roll_length roll_long)

    pub call_answers : CallAnswers key rounds roll grants block right out (call_queue_output key rounds roll grants block right out)
    call_answers =
        let s = same_queue roll_long in
        let a = answers key rounds (roll_of roll) grants block right out (sym s.number ∙ e) in
        record {
          each = λ i h. ap (λ (l : List ℕ). get_or l i 0) s.output ∙ a.each i h ∙ sym (code_byte (grant_at grants i));
          same = ap length s.output ∙ a.same;
          rest = ap (drop (grants_in (length grants))) s.output ∙ a.rest;
        }

    pub call_verdict : (i : ℕ) → i < grants_in (length grants) → VerdictByte (get_or (call_queue_output key rounds roll grants block right out) i 0)
    call_verdict i h =
        let s = same_queue roll_long in
        subst⁻¹ (λ (l : List ℕ). VerdictByte (get_or l i 0)) s.output (verdict key rounds (roll_of roll) grants block right out (sym s.number ∙ e) i h)
