-- No reason has the number 0, and none a number above 25.
use mathlib.Core.Path.{◌≡◌, refl}
use mathlib.Core.Bool.{true, ◌&&◌}
use Prim.Native.Nat.{◌≤◌, ◌<◌}
use lib.Dec.{ltb, leb}
use borrow.Author.Tests.{ltb-true, leb-true}
use Rattle.basics.proofs.Tests.{and_first, and_second}
use Rattle.refusal.specs.declared.Reason.{Reason}
use Rattle.refusal.specs.declared.Reason.TheVariants.{KeyLength, RoundCount, InputLength, OutputTooShort, StageOrList, Contractor, UnknownRight}
use Rattle.refusal.specs.declared.Reason.TheVariants.{NotAGrant, OtherBlock, OtherRight, NotAPage, PayloadTooLong, CheckDiffers, BlockZero}
use Rattle.refusal.specs.declared.Reason.TheVariants.{NotInStanding, InStanding, CountSpent, OtherCount, BrokenHolder, AboveHighest}
use Rattle.refusal.specs.Reasons.{reason_number}

-- both, as a test that computes
bounded : (r : Reason) → (ltb 0 (reason_number r) && leb (reason_number r) 25) ≡ true
bounded KeyLength = refl
bounded RoundCount = refl
bounded InputLength = refl
bounded OutputTooShort = refl
bounded StageOrList = refl
bounded Contractor = refl
bounded UnknownRight = refl
bounded NotAGrant = refl
bounded OtherBlock = refl
bounded OtherRight = refl
bounded NotAPage = refl
bounded PayloadTooLong = refl
bounded CheckDiffers = refl
bounded BlockZero = refl
bounded NotInStanding = refl
bounded InStanding = refl
bounded CountSpent = refl
bounded OtherCount = refl
bounded BrokenHolder = refl
bounded AboveHighest = refl

pub reason_positive : (r : Reason) → 0 < reason_number r
reason_positive r = let n = reason_number r in ltb-true 0 n (and_first (ltb 0 n) (leb n 25) (bounded r))

pub reason-most : (r : Reason) → reason_number r ≤ 25
reason-most r = let n = reason_number r in leb-true n 25 (and_second (ltb 0 n) (leb n 25) (bounded r))
