-- Grants and verdicts: document 01, "Roll and grant". A grant's plain bytes name contractor, count, size block and right.
use Rattle.std.specs.Prelude.{Bool, ◌&&◌, List, [], ◌∷◌, ◌++◌, ℕ, eqb, get_or, Result, Ok, Err}
use Rattle.refusal.specs.declared.Reason.{Reason}
use Rattle.refusal.specs.Reasons.{reason_number}
use Rattle.numbers.specs.Numbers.{two_from, four_from, two_bytes, four_bytes}
use Rattle.roll.specs.Roll.{is_contractor}
use Rattle.rights.specs.Rights.{right_number, is_right}
use Rattle.grant.specs.declared.Grant.{Grant}

-- ---- plain bytes, numbers big end first
-- 2 contractor, 2 count, 4 size block number, 1 right, then 47 52 44
unfoldable pub plain_grant : ℕ → ℕ → ℕ → ℕ → List ℕ
plain_grant contractor count size_block right =
    two_bytes contractor ++ (two_bytes count ++ (four_bytes size_block ++ (right ∷ 0x47 ∷ 0x52 ∷ 0x44 ∷ [])))

-- what twelve plain bytes name
unfoldable pub contractor_in : List ℕ → ℕ
contractor_in p = two_from (get_or p 0 0) (get_or p 1 0)

unfoldable pub count_in : List ℕ → ℕ
count_in p = two_from (get_or p 2 0) (get_or p 3 0)

unfoldable pub size_block_in : List ℕ → ℕ
size_block_in p = four_from (get_or p 4 0) (get_or p 5 0) (get_or p 6 0) (get_or p 7 0)

abbrev pub right_in : List ℕ → ℕ
right_in p = get_or p 8 0

unfoldable pub is_marked : List ℕ → Bool
is_marked p = eqb (get_or p 9 0) 0x47 && (eqb (get_or p 10 0) 0x52 && eqb (get_or p 11 0) 0x44)

-- a whole grant: mark, contractor 1 to 200, right 1 or 2. Any count and any size block will do
unfoldable pub is_grant : List ℕ → Bool
is_grant p = is_marked p && (is_contractor (contractor_in p) && is_right (right_in p))

-- ---- verdicts: a grant that opens, or the reason why it is refused; document 01's number of each case, and the values that it holds
abbrev pub Verdict : Type 0
Verdict = Result Grant Reason

-- the refusal number, 0 where the grant opens
abbrev pub verdict_number : Verdict → ℕ
verdict_number (Ok g) = 0
verdict_number (Err r) = reason_number r

-- where the grant opens, its contractor and the right that was asked for; 0 where it does not
abbrev pub verdict_contractor : Verdict → ℕ
verdict_contractor (Ok g) = g.contractor
verdict_contractor (Err r) = 0

abbrev pub verdict_right : Verdict → ℕ
verdict_right (Ok g) = right_number g.right
verdict_right (Err r) = 0
