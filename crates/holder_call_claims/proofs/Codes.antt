-- A walk's number tells its answer.
use mathlib.Core.Path.{◌≡◌, refl, sym, ◌∙◌}
use Prim.Native.Nat.{ℕ, zero, suc, ◌+◌, ◌≤◌, ◌<◌}
use native.Mathlib.Omega.{arith}
use Rattle.refusal.specs.Tries.{answered}
use Rattle.refusal.proofs.Answers.{not_answered}
use Rattle.refusal.proofs.Ladder.{first_small}
use Rattle.holder.specs.declared.Holder.{Holder}
use Rattle.holder.specs.declared.Way.{Way}
use Rattle.holder.specs.declared.Way.TheVariants.{Forward, Back}
use Rattle.holder_walk.specs.Walk.{walk_tries, walk_number}
use Rattle.holder_walk.proofs.Walks.{walk-few, walk_refused}
use Rattle.holder_walk_call.specs.WalkCall.{way_code, walk_code}
use Rattle.holder_call_claims.specs.HolderRoutes.{WalkAnswer, walk_answer}
use Rattle.holder_call_claims.specs.Claims.{OfWalk}

pub walk-answers : (h : Holder) (d : ℕ) → OfWalk (walk_answer h d)
walk-answers h d = record {
  reason = first_small 1000 (walk_tries h d) refl;
  few = walk-few h d;
  refused = λ p. let r = walk_refused h d (walk_number h d) p refl in (sym r.1.0, sym r.1.1.0);
}

-- of two answers that were not refused
way_tells : (v w : Way) (s r : ℕ) → s ≤ 12 → r ≤ 12 → way_code v + s ≡ way_code w + r → v ≡ w
way_tells Forward Forward s r p q e = refl
way_tells Back Back s r p q e = refl
way_tells Forward Back s r p q e = let z : ⊥ = omega (arith, e) in absurd z
way_tells Back Forward s r p q e = let z : ⊥ = omega (arith, e) in absurd z

steps_tell : (v w : Way) (s r : ℕ) → s ≤ 12 → r ≤ 12 → way_code v + s ≡ way_code w + r → s ≡ r
steps_tell Forward Forward s r p q e = omega (arith, e)
steps_tell Back Back s r p q e = omega (arith, e)
steps_tell Forward Back s r p q e = let z : ⊥ = omega (arith, e) in absurd z
steps_tell Back Forward s r p q e = let z : ⊥ = omega (arith, e) in absurd z

above : (w : Way) (s n : ℕ) → way_code w + s ≡ n → n < 1000 → ⊥
above Forward s n e h = omega (arith, e)
above Back s n e h = omega (arith, e)

abbrev an : ℕ → ℕ → Way → WalkAnswer
an n steps way = record { number = n; steps = steps; way = way }

-- a refusal's number is the answer
refused-code : (n s : ℕ) (w : Way) → suc n ≡ walk_code (suc n) s w
refused-code n s w = not_answered (suc n) (way_code w + s) (suc n) (omega arith)

pub codes_tell : (m n s r : ℕ) (v w : Way) → OfWalk (an m s v) → OfWalk (an n r w) → walk_code m s v ≡ walk_code n r w → an m s v ≡ an n r w
unfolding answered
codes_tell zero zero s r v w a b e = λ i. an 0 (steps_tell v w s r a.few b.few e i) (way_tells v w s r a.few b.few e i)
codes_tell zero (suc n) s r v w a b e = absurd (above v s (suc n) (e ∙ sym (refused-code n r w)) b.reason)
codes_tell (suc m) zero s r v w a b e = absurd (above w r (suc m) (sym e ∙ sym (refused-code m s v)) a.reason)
codes_tell (suc m) (suc n) s r v w a b e =
    let x = a.refused (omega arith) in
    let y = b.refused (omega arith) in
    let z = refused-code m s v ∙ e ∙ sym (refused-code n r w) in
    λ i. an (z i) ((x.0 ∙ sym y.0) i) ((x.1 ∙ sym y.1) i)
