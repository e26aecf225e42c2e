-- A term of each type of specs/Claims.antt.
use mathlib.Core.Path.{◌≡◌, refl, sym, ap, ◌∙◌}
use mathlib.Core.Bool.{Bool, cond}
use Prim.Native.Nat.{ℕ}
use native.Mathlib.Omega.{arith}
use lib.Dec.{eqb}
use borrow.Author.Tests.{ne_eqb}
use Rattle.refusal.specs.declared.Reason.{Reason}
use Rattle.refusal.specs.declared.Reason.TheVariants.{KeyLength, RoundCount, InputLength, OutputTooShort, StageOrList, Contractor, UnknownRight}
use Rattle.refusal.specs.declared.Reason.TheVariants.{NotAGrant, OtherBlock, OtherRight, NotAPage, PayloadTooLong, CheckDiffers, BlockZero}
use Rattle.refusal.specs.declared.Reason.TheVariants.{NotInStanding, InStanding, CountSpent, OtherCount, BrokenHolder, AboveHighest}
use Rattle.std.specs.Prelude.{Result, Ok, Err}
use Rattle.refusal.specs.Reasons.{reason_number, outcome_number}
use Rattle.refusal.specs.Claims.{NumbersTellReasons, NumbersTellOutcomes, NoneHoldsNoneGiven, NoneGivenNoneHolds, GivenIsFirst}
use Rattle.refusal.proofs.Reasons.{reason_positive}
use Rattle.refusal.proofs.Tries.{none-given, none-holds, first_of}

-- ---- a reason from its number
reason : ℕ → Reason
reason n =
    cond (eqb n 1) KeyLength (cond (eqb n 2) RoundCount (cond (eqb n 3) InputLength (cond (eqb n 4) OutputTooShort
    (cond (eqb n 5) StageOrList (cond (eqb n 6) Contractor (cond (eqb n 7) UnknownRight (cond (eqb n 8) NotAGrant
    (cond (eqb n 9) OtherBlock (cond (eqb n 10) OtherRight (cond (eqb n 11) NotAPage (cond (eqb n 12) PayloadTooLong
    (cond (eqb n 13) CheckDiffers (cond (eqb n 14) BlockZero (cond (eqb n 20) NotInStanding (cond (eqb n 21) InStanding
    (cond (eqb n 22) CountSpent (cond (eqb n 23) OtherCount (cond (eqb n 24) BrokenHolder AboveHighest))))))))))))))))))

reason-number : (r : Reason) → reason (reason_number r) ≡ r
unfolding reason
reason-number KeyLength = refl
reason-number RoundCount = refl
reason-number InputLength = refl
reason-number OutputTooShort = refl
reason-number StageOrList = refl
reason-number Contractor = refl
reason-number UnknownRight = refl
reason-number NotAGrant = refl
reason-number OtherBlock = refl
reason-number OtherRight = refl
reason-number NotAPage = refl
reason-number PayloadTooLong = refl
reason-number CheckDiffers = refl
reason-number BlockZero = refl
reason-number NotInStanding = refl
reason-number InStanding = refl
reason-number CountSpent = refl
reason-number OtherCount = refl
reason-number BrokenHolder = refl
reason-number AboveHighest = refl

pub numbers_tell_reasons : NumbersTellReasons
unfolding NumbersTellReasons
numbers_tell_reasons r s e = sym (reason-number r) ∙ ap reason e ∙ reason-number s

-- ---- an answer from its number
outcome : ℕ → Result (Unit {0}) Reason
outcome n = cond (eqb n 0) (Ok tt) (Err (reason n))

not_zero : (r : Reason) → outcome (reason_number r) ≡ Err (reason (reason_number r))
unfolding outcome
not_zero r =
    let n = reason_number r in
    ap (λ (b : Bool). cond b (Ok tt) (Err (reason n))) (ne_eqb n 0 (λ e. omega (arith, reason_positive r, e)))

outcome_number_lem : (o : Result (Unit {0}) Reason) → outcome (outcome_number o) ≡ o
unfolding outcome
outcome_number_lem (Ok tt) = refl
outcome_number_lem (Err r) = not_zero r ∙ ap Err (reason-number r)

pub numbers_tell_outcomes : NumbersTellOutcomes
unfolding NumbersTellOutcomes
numbers_tell_outcomes o p e = sym (outcome_number_lem o) ∙ ap outcome e ∙ outcome_number_lem p

-- ---- the order
pub none_holds-none_given : NoneHoldsNoneGiven
unfolding NoneHoldsNoneGiven
none_holds-none_given = none-given

pub none_given-none_holds : NoneGivenNoneHolds
unfolding NoneGivenNoneHolds
none_given-none_holds = none-holds

pub given_is_first : GivenIsFirst
unfolding GivenIsFirst
given_is_first = first_of
