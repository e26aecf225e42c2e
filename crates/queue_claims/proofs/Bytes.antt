-- The bytes that a queue leaves: each is the number of the single check, and one of those that a grant can be refused with.
use mathlib.Core.Path.{◌≡◌, refl, ◌∙◌, subst, subst⁻¹}
use mathlib.Core.Bool.{Bool, true, false, cond, ◌&&◌}
use mathlib.Core.Logic.{inl, inr}
use mathlib.Core.List.{List, [], ◌∷◌}
use Prim.Native.Nat.{ℕ, ◌<◌}
use native.Mathlib.Omega.{arith}
use lib.Dec.{ltb}
use lib.ListN.{length, get_or}
use borrow.Author.Tests.{ltb-true, leb-true}
use Rattle.basics.proofs.Tests.{and_first, and_second}
use Rattle.refusal.specs.Tries.{Try, first}
use Rattle.refusal.proofs.Given.{others, not_given}
use Rattle.refusal.proofs.Ladder.{all_pass}
use Rattle.refusal.proofs.Answers.{put_each, put_same, put_rest}
use Rattle.rounds.proofs.Turned.{get_or-listed}
use Rattle.roll.specs.declared.Roll.{Roll}
use Rattle.judging.specs.Judging.{plain_tries}
use Rattle.checking.specs.Checking.{opened_grant, entry_now}
use Rattle.queue_parts.specs.QueueParts.{queue_length, grants_in, grant_at}
use Rattle.queue_parts.proofs.Answers.{grant-length}
use Rattle.queue_parts.proofs.Passed.{QueuePassed, queue_passed}
use Rattle.queue.specs.Queue.{queue_tries, queue_number, queue_answers, queue_output}
use Rattle.queue.proofs.Answered.{length-answers, tried_once}
use Rattle.queue_claims.specs.Claims.{Answers, Among, VerdictByte}

-- ---- a number that tries give
-- it is 0 or the number of one of them
abbrev numbers : List Try → List ℕ
numbers [] = []
numbers (t ∷ ts) = t.number ∷ numbers ts

first_among : (ts : List Try) → Among (first ts) (0 ∷ numbers ts)
unfolding first
first_among [] = inl refl
first_among (t ∷ ts) = by t.passes (first_among ts)
  where
    by : (b : Bool) → Among (first ts) (0 ∷ numbers ts) → Among (cond b (first ts) t.number) (0 ∷ t.number ∷ numbers ts)
    by true (inl e) = inl e
    by true (inr m) = inr (inr m)
    by false m = inr (inl refl)

-- numbers that no try has are not given: computed
abbrev absent : List ℕ → List Try → Bool
absent [] ts = true
absent (m ∷ ms) ts = ltb 0 m && (others m ts && absent ms ts)

not_among : (ms : List ℕ) (ts : List Try) → absent ms ts ≡ true → Among (first ts) ms → ⊥
not_among [] ts a g = g
not_among (m ∷ ms) ts a (inl e) =
    let rest = and_second (ltb 0 m) (others m ts && absent ms ts) a in
    not_given m (ltb-true 0 m (and_first (ltb 0 m) (others m ts && absent ms ts) a)) ts (and_first (others m ts) (absent ms ts) rest) e
not_among (m ∷ ms) ts a (inr g) =
    not_among ms ts (and_second (others m ts) (absent ms ts) (and_second (ltb 0 m) (others m ts && absent ms ts) a)) g

-- ---- what a queue leaves
module _ (key : List ℕ) (rounds : ℕ) (roll : Roll) (grants : List ℕ) (block right : ℕ) (out : List ℕ)
    (e : queue_number key rounds grants block right out ≡ 0) where
  pub passed : QueuePassed (length key) rounds (queue_length (length grants)) (length grants) (length out) block right
  passed = queue_passed (length key) rounds (queue_length (length grants)) (length grants) (length out) block right
      (all_pass (queue_tries key rounds grants block right out) refl e)

  -- each byte
  pub answers : Answers key rounds roll grants block right out (queue_output key rounds roll grants block right out)
  unfolding queue_output queue_answers passed
  answers =
      let bytes = queue_answers key rounds roll grants block right in
      let l = length-answers key rounds roll grants block right in
      let n = grants_in (length grants) in
      record {
        each = λ i h. put_each _ bytes out e i (subst⁻¹ (λ (m : ℕ). i < m) l h) ∙ get_or-listed 0 n _ i h;
        same = put_same _ bytes out e (omega (arith, l, leb-true n (length out) passed.fits));
        rest = put_rest _ bytes out e n l;
      }

  -- the byte for a grant, by what is tried of its plain bytes
  module _ (i : ℕ) (h : i < grants_in (length grants)) where
    tries : List Try
    tries = let g = grant_at grants i in plain_tries (opened_grant key rounds g) (entry_now key rounds roll g) block right

    judged : get_or (queue_output key rounds roll grants block right out) i 0 ≡ first tries
    unfolding passed tries
    judged =
        answers.each i h
        ∙ tried_once key rounds roll (grant_at grants i) block right passed.key-length passed.round-count passed.asked passed.some_block
        (grant-length grants i h)

    pub verdict : VerdictByte (get_or (queue_output key rounds roll grants block right out) i 0)
    unfolding tries
    verdict = record {
      one_of = subst⁻¹ (λ (n : ℕ). Among n (0 ∷ numbers tries)) judged (first_among tries);
      none_of = λ m. not_among (1 ∷ 2 ∷ 3 ∷ 4 ∷ 7 ∷ 14 ∷ []) tries refl (subst (λ (n : ℕ). Among n (1 ∷ 2 ∷ 3 ∷ 4 ∷ 7 ∷ 14 ∷ [])) judged m);
    }
