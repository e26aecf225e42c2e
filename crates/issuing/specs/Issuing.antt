-- What issuing a grant answers: document 01, "Roll and grant" and the order line "issue 1, 2, 4, 6, 7, 20", with 25 last, as request 6 has it, and 14
-- directly after 7, as request 7 has it. The contractor's count now is written in the grant. The order line is made of parts, which the call on a roll's
-- bytes shares.
use Rattle.std.specs.Prelude.{Bool, List, [], ◌∷◌, ◌++◌, ℕ, leb, length}
use Rattle.refusal.specs.Tries.{Try, ◌unless◌, first, written}
use Rattle.settings.specs.Settings.{settings_tries}
use Rattle.size_blocks.specs.SizeBlocks.{is_size_block}
use Rattle.key_lists.specs.declared.Direction.TheVariants.{Enciphering}
use Rattle.cipher.specs.Cipher.{cipher_block}
use Rattle.roll.specs.declared.Roll.{Roll}
use Rattle.roll.specs.declared.Entry.{Entry}
use Rattle.roll.specs.Roll.{is_contractor, count_of, entry_of, in_standing}
use Rattle.rights.specs.Rights.{is_right, within_highest}
use Rattle.grant.specs.Grants.{plain_grant}

-- what is wanted, with room for so many bytes: 4, 6, 7, 14, 20 and 25, for a contractor whose entry is this
abbrev pub wanted_tries : ℕ → ℕ → ℕ → ℕ → Entry → List Try
wanted_tries room contractor size_block right entry =
    (4 unless leb 12 room)
    ∷ (6 unless is_contractor contractor)
    ∷ (7 unless is_right right)
    ∷ (14 unless is_size_block size_block)
    ∷ (20 unless in_standing entry.count)
    ∷ (25 unless within_highest right entry.figure)
    ∷ []

-- 1 and 2, then these
abbrev pub issue_tries : List ℕ → ℕ → Roll → ℕ → ℕ → ℕ → List ℕ → List Try
issue_tries key rounds roll contractor size_block right out =
    settings_tries (length key) rounds ++ wanted_tries (length out) contractor size_block right (entry_of roll contractor)

-- and where what holds the roll may not be a whole one, 3 between them
abbrev pub issue_tries_on : Bool → List ℕ → ℕ → Roll → ℕ → ℕ → ℕ → List ℕ → List Try
issue_tries_on whole key rounds roll contractor size_block right out =
    (settings_tries (length key) rounds ++ ((3 unless whole) ∷ [])) ++ wanted_tries (length out) contractor size_block right (entry_of roll contractor)

abbrev pub issue_number : List ℕ → ℕ → Roll → ℕ → ℕ → ℕ → List ℕ → ℕ
issue_number key rounds roll contractor size_block right out = first (issue_tries key rounds roll contractor size_block right out)

-- the grant. It is defined for every size block, since grants for 0 were issued before request 7
unfoldable pub issued_grant : List ℕ → ℕ → Roll → ℕ → ℕ → ℕ → List ℕ
issued_grant key rounds roll contractor size_block right =
    cipher_block Enciphering key rounds (plain_grant contractor (count_of roll contractor) size_block right)

unfoldable pub issue_output : List ℕ → ℕ → Roll → ℕ → ℕ → ℕ → List ℕ → List ℕ
issue_output key rounds roll contractor size_block right out =
    written (issue_number key rounds roll contractor size_block right out) (issued_grant key rounds roll contractor size_block right) out
