-- What the number that the C call of the check answers is made of.
use mathlib.Core.Path.{◌≡◌, refl, sym, ap, ap₂, ◌∙◌, subst⁻¹}
use mathlib.Core.Bool.{Bool, true, false, cond}
use mathlib.Core.List.{List, ◌∷◌}
use Prim.Native.Nat.{ℕ, ◌+◌, ◌*◌, ◌≤◌}
use native.Mathlib.Omega.{arith}
use lib.Dec.{eqb}
use borrow.Author.Tests.{ne_eqb}
use Rattle.std.specs.Prelude.{Ok, Err}
use Rattle.refusal.specs.Reasons.{reason_number}
use Rattle.refusal.specs.Tries.{Try, ◌unless◌, first, answered}
use Rattle.refusal.proofs.Reasons.{reason_positive}
use Rattle.refusal.proofs.Ladder.{numbered, all_pass}
use Rattle.refusal.proofs.Answers.{answer_either}
use Rattle.roll.proofs.Contractors.{a_contractor}
use Rattle.grant.specs.Grants.{Verdict, is_grant, contractor_in, verdict_number, verdict_contractor, verdict_right}
use Rattle.grant.proofs.Tests.{a_grant}
use Rattle.check_call.specs.CheckCall.{verdict_code}

-- a verdict names a contractor of at most 200, or none, whatever of the input passes and whatever is tried after 8 of the plain bytes p
pub contractor-most : (a b c d e : Bool) (p : List ℕ) (rest : List Try) (v : Verdict)
    → verdict_contractor v
    ≡ answered (first ((1 unless a) ∷ (2 unless b) ∷ (3 unless c) ∷ (7 unless d) ∷ (14 unless e) ∷ (8 unless is_grant p) ∷ rest)) (contractor_in p) 0
    → numbered rest ≡ true → verdict_contractor v ≤ 200
contractor-most a b c d e p rest v same some =
    let ts : List Try = (1 unless a) ∷ (2 unless b) ∷ (3 unless c) ∷ (7 unless d) ∷ (14 unless e) ∷ (8 unless is_grant p) ∷ rest in
    subst⁻¹ (λ (n : ℕ). n ≤ 200) same (answer_either (λ (n : ℕ). n ≤ 200) (first ts) (contractor_in p) 0
    (λ z. (a_contractor _ (a_grant p (all_pass ts some z).1.1.1.1.1.0).contractor).most) (omega arith))

-- a verdict's number, by its parts
pub code_of : (v : Verdict) → verdict_code v ≡ answered (verdict_number v) (1000 * verdict_right v + verdict_contractor v) (verdict_number v)
unfolding answered
code_of (Ok g) = refl
code_of (Err r) = sym (ap (λ (b : Bool). cond b 0 (reason_number r)) (ne_eqb (reason_number r) 0 (λ e. omega (arith, reason_positive r, e))))

pub parts : (n r c : ℕ) → answered n (1000 * answered n r 0 + answered n c 0) n ≡ answered n (1000 * r + c) n
unfolding answered
parts n r c = by (eqb n 0)
  where
    by : (b : Bool) → cond b (1000 * cond b r 0 + cond b c 0) n ≡ cond b (1000 * r + c) n
    by true = refl
    by false = refl

-- and by what was tried, of which n is the number
pub told : (n r c number right contractor : ℕ) → number ≡ n → contractor ≡ answered n c 0 → right ≡ answered n r 0
    → answered number (1000 * right + contractor) number ≡ answered n (1000 * r + c) n
told n r c number right contractor en ec er =
    ap (λ (m : ℕ). answered m (1000 * right + contractor) m) en ∙ ap₂ (λ (a b : ℕ). answered n (1000 * a + b) n) er ec ∙ parts n r c

-- what the call answers for a verdict v, by what v is said to hold
pub answers : (v : Verdict) (n r c code : ℕ) → code ≡ verdict_code v → verdict_number v ≡ n
    → verdict_contractor v ≡ answered n c 0 → verdict_right v ≡ answered n r 0 → code ≡ answered n (1000 * r + c) n
answers v n r c code e en ec er =
    e ∙ code_of v ∙ told n r c (verdict_number v) (verdict_right v) (verdict_contractor v) en ec er
