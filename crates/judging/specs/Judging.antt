-- What is tried of a grant that is checked, asked for one size block and one right: the parts of document 01's order line
-- "check 1, 2, 3, 7, 8, 9, 10, 20, 23", with 10 as request 1 has it, 25 last, as request 6 has it, and 14 directly after 7, as request 7 has it. What is
-- tried of the input comes first; the plain bytes are there once the grant is deciphered.
use Rattle.std.specs.Prelude.{Bool, List, [], ◌∷◌, ◌++◌, ℕ, eqb}
use Rattle.refusal.specs.Tries.{Try, ◌unless◌, first, answered}
use Rattle.settings.specs.Settings.{settings_tries}
use Rattle.size_blocks.specs.SizeBlocks.{is_size_block}
use Rattle.roll.specs.declared.Entry.{Entry}
use Rattle.roll.specs.Roll.{in_standing}
use Rattle.rights.specs.Rights.{is_right, covers, within_highest}
use Rattle.grant.specs.Grants.{contractor_in, count_in, size_block_in, right_in, is_grant}

-- settings, for a key of n bytes; whether what was handed over has its length; and the right and the size block asked for: 1, 2, 3, 7 and 14
abbrev pub input_tries : ℕ → ℕ → Bool → ℕ → ℕ → List Try
input_tries n rounds lengths size_block right =
    settings_tries n rounds
    ++ ((3 unless lengths) ∷ (7 unless is_right right) ∷ (14 unless is_size_block size_block) ∷ [])

-- what was asked for, against the plain bytes p: 9; and 10, which, since 7 and 8 come first, is where overwriting is asked of a reading grant
abbrev pub asked_tries : List ℕ → ℕ → ℕ → List Try
asked_tries p size_block right =
    (9 unless eqb (size_block_in p) size_block)
    ∷ (10 unless covers (right_in p) right)
    ∷ []

-- the contractor's entry on the roll: whether they are in standing, and in the one that is written in p: 20 and 23; and 25, which looks at the right
-- asked for, and not at the one written in p
abbrev pub standing_tries : List ℕ → Entry → ℕ → List Try
standing_tries p entry right =
    (20 unless in_standing entry.count)
    ∷ (23 unless eqb (count_in p) entry.count)
    ∷ (25 unless within_highest right entry.figure)
    ∷ []

-- what is tried of the plain bytes p: 8, then 9 and 10, then 20, 23 and 25
abbrev pub plain_tries : List ℕ → Entry → ℕ → ℕ → List Try
plain_tries p entry size_block right = (8 unless is_grant p) ∷ (asked_tries p size_block right ++ standing_tries p entry right)

-- what is answered: the number of the first reason that holds, or 0; where none holds, the contractor whom p names and the right that was asked for. The
-- input was tried before this, and 14 with it: a size block of 0 is not looked for here
abbrev pub judged_number : List ℕ → Entry → ℕ → ℕ → ℕ
judged_number p entry size_block right = first (plain_tries p entry size_block right)

abbrev pub judged_contractor : List ℕ → Entry → ℕ → ℕ → ℕ
judged_contractor p entry size_block right = answered (judged_number p entry size_block right) (contractor_in p) 0

abbrev pub judged_right : List ℕ → Entry → ℕ → ℕ → ℕ
judged_right p entry size_block right = answered (judged_number p entry size_block right) right 0
