-- The numbers of the reasons: document 01, "Reasons found in the input" and "Reasons found in the state"; 10 as request 1 has it, 3 and 4
-- also as request 2 has them, 1 and 4 also as request 3 has them, whose own are 11 to 13, and 3 also as request 6 has it, whose own is 25.
-- Request 7's own is 14.
use Rattle.std.specs.Prelude.{ℕ, Result, Ok, Err}
use Rattle.refusal.specs.declared.Reason.{Reason}
use Rattle.refusal.specs.declared.Reason.TheVariants.{KeyLength, RoundCount, InputLength, OutputTooShort, StageOrList, Contractor, UnknownRight}
use Rattle.refusal.specs.declared.Reason.TheVariants.{NotAGrant, OtherBlock, OtherRight, NotAPage, PayloadTooLong, CheckDiffers, BlockZero}
use Rattle.refusal.specs.declared.Reason.TheVariants.{NotInStanding, InStanding, CountSpent, OtherCount, BrokenHolder, AboveHighest}

abbrev pub reason_number : Reason → ℕ
-- key not 12, 18 or 24 bytes; also two keys for a page that are equal or of unequal lengths
reason_number KeyLength = 1
-- round count outside the table's row
reason_number RoundCount = 2
-- block or grant not 12 bytes; a queue of grants whose length is over 768 or not a multiple of 12; in the C call also a roll not 600 bytes
reason_number InputLength = 3
-- output too short: under 12 bytes for a block or an issued grant, 12(R + 1) for a prepared list; of a queue, fewer bytes for the answers than grants; of
-- a page, under 512 where one is sealed and 492 where one is opened, and also scratch under 576. In C calls of our own, under 24 for a stage, 26 for a
-- holder, 12 for a subkey and 600 for an empty roll
reason_number OutputTooShort = 4
-- stage number 6t or more; or a subkey list whose length is under 132, over 288 or not a multiple of 12
reason_number StageOrList = 5
-- contractor outside 1 to 200
reason_number Contractor = 6
-- right neither 1 nor 2
reason_number UnknownRight = 7
-- deciphered bytes have a wrong mark, contractor or right
reason_number NotAGrant = 8
-- grant for another size block
reason_number OtherBlock = 9
-- overwriting asked of a reading grant. The name is that of the rule before request 1
reason_number OtherRight = 10
-- page not 512 bytes, its used count over 492 or its bytes 8 to 11 not zero; or, tried after the check, unused payload bytes that are not zero
reason_number NotAPage = 11
-- payload over 492 bytes
reason_number PayloadTooLong = 12
-- the check of a page differs
reason_number CheckDiffers = 13
-- size block number 0 asked for
reason_number BlockZero = 14
-- contractor not in standing
reason_number NotInStanding = 20
-- entering someone in standing
reason_number InStanding = 21
-- entering at count 65,534 or 65,535
reason_number CountSpent = 22
-- grant's count differs from the roll's
reason_number OtherCount = 23
-- holder with a wrong key length, a stage number of 6t or more, or non-zero bytes past the key; in the C calls also one not of 26 bytes
reason_number BrokenHolder = 24
-- right asked for above the contractor's highest
reason_number AboveHighest = 25

-- the number that an answer stands for: 0 where the work was done
abbrev pub outcome_number : {T : Type 0} → Result T Reason → ℕ
outcome_number (Ok done) = 0
outcome_number (Err r) = reason_number r
