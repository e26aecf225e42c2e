-- Known answers for a grant's plain bytes: what is answered, as the independent program prints it (each comment begins its line); and the order of
-- refusals where two reasons hold together, where the two reasons and the number given are that program's, and the input is ours.
use Rattle.std.specs.Prelude.{Bool, true, false, List, [], ◌∷◌, ◌++◌, ℕ, replicate}
use Rattle.basics.specs.Cases.{Case, ◌is◌, threes}
use Rattle.refusal.specs.Tries.{first, answered}
use Rattle.roll.specs.declared.Entry.{Entry}
use Rattle.roll.specs.Roll.{empty_roll, entry_of}
use Rattle.grant.specs.Grants.{plain_grant, contractor_in}
use Rattle.grant.specs.KnownAnswers.{plain}
use Rattle.judging.specs.Judging.{input_tries, plain_tries, judged_number, judged_contractor, judged_right}

-- grants to contractor 7 in standing 1, for size block 300: to overwrite, to read, and with what is no right
abbrev pub to_overwrite : List ℕ
to_overwrite = threes (0x000700 ∷ 0x010000 ∷ 0x012C02 ∷ 0x475244 ∷ [])

abbrev pub to_read : List ℕ
to_read = threes (0x000700 ∷ 0x010000 ∷ 0x012C01 ∷ 0x475244 ∷ [])

abbrev pub with_three : List ℕ
with_three = threes (0x000700 ∷ 0x010000 ∷ 0x012C03 ∷ 0x475244 ∷ [])

abbrev pub with_zero : List ℕ
with_zero = threes (0x000700 ∷ 0x010000 ∷ 0x012C00 ∷ 0x475244 ∷ [])

-- grants from before request 7 for size block 0: to overwrite, to read, and with what is no right
abbrev pub zero_to_overwrite : List ℕ
zero_to_overwrite = threes (0x000700 ∷ 0x010000 ∷ 0x000002 ∷ 0x475244 ∷ [])

abbrev pub zero_to_read : List ℕ
zero_to_read = threes (0x000700 ∷ 0x010000 ∷ 0x000001 ∷ 0x475244 ∷ [])

abbrev pub zero_with_three : List ℕ
zero_with_three = threes (0x000700 ∷ 0x010000 ∷ 0x000003 ∷ 0x475244 ∷ [])

-- number, contractor and right
abbrev pub judged_of : List ℕ → ℕ → ℕ → ℕ → ℕ → List ℕ
judged_of p count figure size_block right =
    let entry : Entry = record { count = count; figure = figure } in
    judged_number p entry size_block right ∷ judged_contractor p entry size_block right ∷ judged_right p entry size_block right ∷ []

-- the tries of a check whose grant deciphers to p: of the input, for a key of n bytes, and then of p
abbrev pub tried_of : ℕ → ℕ → Bool → List ℕ → ℕ → ℕ → ℕ → ℕ → ℕ
tried_of n rounds lengths p count figure size_block right =
    first (input_tries n rounds lengths size_block right ++ plain_tries p record { count = count; figure = figure } size_block right)

-- number, contractor and right of such a check, with a key of 12 bytes and 10 rounds
abbrev pub checked_of : List ℕ → ℕ → ℕ → ℕ → ℕ → List ℕ
checked_of p count figure size_block right =
    let n : ℕ = tried_of 12 10 true p count figure size_block right in
    n ∷ answered n (contractor_in p) 0 ∷ answered n right 0 ∷ []

-- and its number, for a grant that names the size block asked for
abbrev pub check_for : ℕ → List ℕ
check_for size_block = tried_of 12 10 true (plain_grant 7 1 size_block 2) 1 2 size_block 2 ∷ []

unfoldable pub known_answers : List Case
known_answers =
    -- judged 000700010000012c02475244 1 2 300 1
    (judged_of to_overwrite 1 2 300 1 is (0 ∷ 7 ∷ 1 ∷ []))
    -- judged 000700010000012c02475244 1 2 300 2
    ∷ (judged_of to_overwrite 1 2 300 2 is (0 ∷ 7 ∷ 2 ∷ []))
    -- judged 000700010000012c01475244 1 2 300 1
    ∷ (judged_of to_read 1 2 300 1 is (0 ∷ 7 ∷ 1 ∷ []))
    -- judged 000700010000012c01475244 1 2 300 2
    ∷ (judged_of to_read 1 2 300 2 is (10 ∷ 0 ∷ 0 ∷ []))
    -- judged 000700010000012c02475244 1 2 301 1
    ∷ (judged_of to_overwrite 1 2 301 1 is (9 ∷ 0 ∷ 0 ∷ []))
    -- judged 000700010000012c02475244 2 2 300 1
    ∷ (judged_of to_overwrite 2 2 300 1 is (20 ∷ 0 ∷ 0 ∷ []))
    -- judged 000700010000012c02475244 3 2 300 1
    ∷ (judged_of to_overwrite 3 2 300 1 is (23 ∷ 0 ∷ 0 ∷ []))
    -- judged 000700010000012c03475244 1 2 300 1
    ∷ (judged_of with_three 1 2 300 1 is (8 ∷ 0 ∷ 0 ∷ []))
    -- judged 000700010000012c03475244 1 2 300 2
    ∷ (judged_of with_three 1 2 300 2 is (8 ∷ 0 ∷ 0 ∷ []))
    -- judged 000700010000012c00475244 1 2 300 1
    ∷ (judged_of with_zero 1 2 300 1 is (8 ∷ 0 ∷ 0 ∷ []))
    -- judged 000700010000012c02475244 1 0 300 2
    ∷ (judged_of to_overwrite 1 0 300 2 is (25 ∷ 0 ∷ 0 ∷ []))
    -- judged 000700010000012c02475244 1 1 300 2
    ∷ (judged_of to_overwrite 1 1 300 2 is (25 ∷ 0 ∷ 0 ∷ []))
    -- judged 000700010000012c02475244 1 3 300 2
    ∷ (judged_of to_overwrite 1 3 300 2 is (25 ∷ 0 ∷ 0 ∷ []))
    -- judged 000700010000012c02475244 1 255 300 2
    ∷ (judged_of to_overwrite 1 255 300 2 is (25 ∷ 0 ∷ 0 ∷ []))
    -- judged 000700010000012c02475244 1 0 300 1
    ∷ (judged_of to_overwrite 1 0 300 1 is (0 ∷ 7 ∷ 1 ∷ []))
    -- judged 000700010000012c02475244 1 1 300 1
    ∷ (judged_of to_overwrite 1 1 300 1 is (0 ∷ 7 ∷ 1 ∷ []))
    -- judged 000700010000012c02475244 1 255 300 1
    ∷ (judged_of to_overwrite 1 255 300 1 is (0 ∷ 7 ∷ 1 ∷ []))
    -- judged 000700010000012c01475244 1 1 300 2
    ∷ (judged_of to_read 1 1 300 2 is (10 ∷ 0 ∷ 0 ∷ []))
    -- judged 000700010000012c02475244 3 1 300 2
    ∷ (judged_of to_overwrite 3 1 300 2 is (23 ∷ 0 ∷ 0 ∷ []))
    -- judged 000700010000012c02475244 2 1 300 2
    ∷ (judged_of to_overwrite 2 1 300 2 is (20 ∷ 0 ∷ 0 ∷ []))
    -- order check 8 9
    ∷ ((first (plain_tries (replicate 12 0) (entry_of empty_roll 0) 300 2) ∷ []) is (8 ∷ []))
    -- order check 9 10
    ∷ ((first (plain_tries plain (entry_of empty_roll 200) 300 2) ∷ []) is (9 ∷ []))
    -- order check 10 20
    ∷ ((first (plain_tries plain (entry_of empty_roll 200) 16909060 2) ∷ []) is (10 ∷ []))
    -- order check 20 23
    ∷ ((first (plain_tries plain (entry_of empty_roll 200) 16909060 1) ∷ []) is (20 ∷ []))
    -- order check 23 25
    ∷ ((first (plain_tries to_overwrite record { count = 3; figure = 1 } 300 2) ∷ []) is (23 ∷ []))
    ∷ []

-- request 7: which size blocks are refused, whatever their lowest bytes are; grants from before it; and 14 with each other reason
unfoldable pub zero_answers : List Case
zero_answers =
    -- sized check 0
    (check_for 0 is (14 ∷ []))
    -- sized check 1
    ∷ (check_for 1 is (0 ∷ []))
    -- sized check 256
    ∷ (check_for 256 is (0 ∷ []))
    -- sized check 65536
    ∷ (check_for 65536 is (0 ∷ []))
    -- sized check 16777216
    ∷ (check_for 16777216 is (0 ∷ []))
    -- sized check 4294967295
    ∷ (check_for 4294967295 is (0 ∷ []))
    -- oldgrant 000700010000000002475244 1 2 0 2
    ∷ (checked_of zero_to_overwrite 1 2 0 2 is (14 ∷ 0 ∷ 0 ∷ []))
    -- oldgrant 000700010000000002475244 1 2 0 1
    ∷ (checked_of zero_to_overwrite 1 2 0 1 is (14 ∷ 0 ∷ 0 ∷ []))
    -- oldgrant 000700010000000001475244 1 2 0 1
    ∷ (checked_of zero_to_read 1 2 0 1 is (14 ∷ 0 ∷ 0 ∷ []))
    -- oldgrant 000700010000000001475244 1 2 0 2
    ∷ (checked_of zero_to_read 1 2 0 2 is (14 ∷ 0 ∷ 0 ∷ []))
    -- oldgrant 000700010000000002475244 1 2 1 2
    ∷ (checked_of zero_to_overwrite 1 2 1 2 is (9 ∷ 0 ∷ 0 ∷ []))
    -- oldgrant 000700010000000002475244 1 2 256 2
    ∷ (checked_of zero_to_overwrite 1 2 256 2 is (9 ∷ 0 ∷ 0 ∷ []))
    -- oldgrant 000700010000000002475244 1 2 65536 2
    ∷ (checked_of zero_to_overwrite 1 2 65536 2 is (9 ∷ 0 ∷ 0 ∷ []))
    -- oldgrant 000700010000000002475244 1 2 16777216 2
    ∷ (checked_of zero_to_overwrite 1 2 16777216 2 is (9 ∷ 0 ∷ 0 ∷ []))
    -- oldgrant 000700010000000002475244 1 2 4294967295 2
    ∷ (checked_of zero_to_overwrite 1 2 4294967295 2 is (9 ∷ 0 ∷ 0 ∷ []))
    -- oldgrant 000700010000000002475244 1 2 300 2
    ∷ (checked_of zero_to_overwrite 1 2 300 2 is (9 ∷ 0 ∷ 0 ∷ []))
    -- oldgrant 000700010000000002475244 1 2 300 1
    ∷ (checked_of zero_to_overwrite 1 2 300 1 is (9 ∷ 0 ∷ 0 ∷ []))
    -- oldgrant 000700010000000001475244 1 2 300 1
    ∷ (checked_of zero_to_read 1 2 300 1 is (9 ∷ 0 ∷ 0 ∷ []))
    -- oldgrant 000700010000000001475244 1 2 300 2
    ∷ (checked_of zero_to_read 1 2 300 2 is (9 ∷ 0 ∷ 0 ∷ []))
    -- oldgrant 000700010000000002475244 2 2 0 2
    ∷ (checked_of zero_to_overwrite 2 2 0 2 is (14 ∷ 0 ∷ 0 ∷ []))
    -- oldgrant 000700010000000002475244 2 2 300 2
    ∷ (checked_of zero_to_overwrite 2 2 300 2 is (9 ∷ 0 ∷ 0 ∷ []))
    -- oldgrant 000700010000000002475244 3 2 0 2
    ∷ (checked_of zero_to_overwrite 3 2 0 2 is (14 ∷ 0 ∷ 0 ∷ []))
    -- oldgrant 000700010000000002475244 3 2 300 2
    ∷ (checked_of zero_to_overwrite 3 2 300 2 is (9 ∷ 0 ∷ 0 ∷ []))
    -- oldgrant 000700010000000002475244 1 1 0 2
    ∷ (checked_of zero_to_overwrite 1 1 0 2 is (14 ∷ 0 ∷ 0 ∷ []))
    -- oldgrant 000700010000000002475244 1 1 300 2
    ∷ (checked_of zero_to_overwrite 1 1 300 2 is (9 ∷ 0 ∷ 0 ∷ []))
    -- oldgrant 000700010000000003475244 1 2 0 2
    ∷ (checked_of zero_with_three 1 2 0 2 is (14 ∷ 0 ∷ 0 ∷ []))
    -- oldgrant 000700010000000003475244 1 2 300 2
    ∷ (checked_of zero_with_three 1 2 300 2 is (8 ∷ 0 ∷ 0 ∷ []))
    -- oldgrant 000700010000000002475244 1 2 0 3
    ∷ (checked_of zero_to_overwrite 1 2 0 3 is (7 ∷ 0 ∷ 0 ∷ []))
    -- oldgrant 000700010000000002475244 1 2 300 3
    ∷ (checked_of zero_to_overwrite 1 2 300 3 is (7 ∷ 0 ∷ 0 ∷ []))
    -- both check 1 14
    ∷ ((tried_of 11 10 true zero_to_overwrite 1 2 0 2 ∷ []) is (1 ∷ []))
    -- both check 2 14
    ∷ ((tried_of 12 12 true zero_to_overwrite 1 2 0 2 ∷ []) is (2 ∷ []))
    -- both check 3 14
    ∷ ((tried_of 12 10 false zero_to_overwrite 1 2 0 2 ∷ []) is (3 ∷ []))
    -- both check 7 14
    ∷ ((tried_of 12 10 true zero_to_overwrite 1 2 0 3 ∷ []) is (7 ∷ []))
    -- both check 14 8
    ∷ ((tried_of 12 10 true zero_with_three 1 2 0 2 ∷ []) is (14 ∷ []))
    -- both check 14 9
    ∷ ((tried_of 12 10 true to_overwrite 1 2 0 2 ∷ []) is (14 ∷ []))
    -- both check 14 10
    ∷ ((tried_of 12 10 true zero_to_read 1 2 0 2 ∷ []) is (14 ∷ []))
    -- both check 14 20
    ∷ ((tried_of 12 10 true zero_to_overwrite 2 2 0 2 ∷ []) is (14 ∷ []))
    -- both check 14 23
    ∷ ((tried_of 12 10 true zero_to_overwrite 3 2 0 2 ∷ []) is (14 ∷ []))
    -- both check 14 25
    ∷ ((tried_of 12 10 true zero_to_overwrite 1 1 0 2 ∷ []) is (14 ∷ []))
    ∷ []
