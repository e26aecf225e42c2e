-- What checking a grant on a roll answers: document 01, "Roll and grant" and the order line "check 1, 2, 3, 7, 8, 9, 10, 20, 23",
-- with 10 and the right that is answered as request 1 has them, 25 last, as request 6 has it, and 14 directly after 7, as request 7 has it: what is
-- tried of the input, then of the plain bytes.
use Rattle.std.specs.Prelude.{Bool, ◌&&◌, List, ◌++◌, ℕ, eqb, length}
use Rattle.refusal.specs.Tries.{Try, first, answered}
use Rattle.key_lists.specs.declared.Direction.TheVariants.{Deciphering}
use Rattle.cipher.specs.Cipher.{cipher_block}
use Rattle.roll.specs.declared.Roll.{Roll}
use Rattle.roll.specs.declared.Entry.{Entry}
use Rattle.roll.specs.Roll.{entry_of}
use Rattle.grant.specs.Grants.{contractor_in}
use Rattle.judging.specs.Judging.{input_tries, plain_tries}

-- the plain bytes of a grant
unfoldable pub opened_grant : List ℕ → ℕ → List ℕ → List ℕ
opened_grant key rounds grant = cipher_block Deciphering key rounds grant

-- the roll's entry for the contractor whom a grant names
abbrev pub entry_now : List ℕ → ℕ → Roll → List ℕ → Entry
entry_now key rounds roll grant = entry_of roll (contractor_in (opened_grant key rounds grant))

abbrev pub check_tries : List ℕ → ℕ → Roll → List ℕ → ℕ → ℕ → List Try
check_tries key rounds roll grant size_block right =
    input_tries (length key) rounds (eqb (length grant) 12) size_block right
    ++ plain_tries (opened_grant key rounds grant) (entry_now key rounds roll grant) size_block right

-- and where what holds the roll may not be a whole one: 3 is then tried of both lengths together
abbrev pub check_tries_on : Bool → List ℕ → ℕ → Roll → List ℕ → ℕ → ℕ → List Try
check_tries_on whole key rounds roll grant size_block right =
    input_tries (length key) rounds (whole && eqb (length grant) 12) size_block right
    ++ plain_tries (opened_grant key rounds grant) (entry_now key rounds roll grant) size_block right

abbrev pub check_number : List ℕ → ℕ → Roll → List ℕ → ℕ → ℕ → ℕ
check_number key rounds roll grant size_block right = first (check_tries key rounds roll grant size_block right)

-- an accepted check answers with the contractor whom the grant names, and the right that was asked for
unfoldable pub check_contractor : List ℕ → ℕ → Roll → List ℕ → ℕ → ℕ → ℕ
check_contractor key rounds roll grant size_block right =
    answered (check_number key rounds roll grant size_block right) (contractor_in (opened_grant key rounds grant)) 0

unfoldable pub check_right : List ℕ → ℕ → Roll → List ℕ → ℕ → ℕ → ℕ
check_right key rounds roll grant size_block right =
    answered (check_number key rounds roll grant size_block right) right 0
