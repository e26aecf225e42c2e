-- What is claimed of grants: demand 2's second half; document 01, "Roll and grant", "Reasons" and the order lines; request 1, "Looking before
-- overwriting"; request 6, "Demoting without dropping"; request 7, "No more block zero". A term of each type stands in proofs/Claims.antt.
use Rattle.std.specs.Prelude.{true, false, ◌⊎◌, ◌≡◌, List, [], ◌∷◌, ℕ, ◌%◌, ◌≤◌, ◌<◌, length, replicate}
use Rattle.refusal.specs.Claims.{Ordered}
use Rattle.basics.specs.Bytes.{AreBytes}
use Rattle.sizes.specs.Sizes.{key_length, rounds_allowed}
use Rattle.roll.specs.declared.Roll.{Roll}
use Rattle.roll.specs.Roll.{empty_roll, count_of, figure_of}
use Rattle.roll_changes.specs.Changes.{enter_tries, entered_roll, withdraw_tries, change_tries}
use Rattle.histories.specs.Histories.{Change, enter, change, withdraw, roll_after, Withdrawn, Withdraws, Spares, Merge, IsRoll}
use Rattle.rights.specs.Rights.{is_right, covers, highest}
use Rattle.key_lists.specs.Claims.{Settings}
use Rattle.grant.specs.Grants.{Verdict, plain_grant, contractor_in, count_in, right_in, is_grant, verdict_number, verdict_contractor, verdict_right}
use Rattle.issuing.specs.Issuing.{issue_tries, issue_number, issued_grant}
use Rattle.checking.specs.Checking.{opened_grant, check_tries, check_number, check_contractor, check_right}

-- ---- a grant opens exactly when
-- none of the input reasons holds, so that the size block asked for is not 0; the grant deciphers to the plain bytes of a grant to a contractor, 1 to
-- 200, for that size block and with a right that covers the one asked for; the roll has that contractor in standing, with the count that is written in
-- it; and the right asked for is not above the highest that the roll has for them
pub record Opening (key : List ℕ) (rounds : ℕ) (roll : Roll) (grant : List ℕ) (block right : ℕ) : Type 0 where
  pub key-length : key_length (length key) ≡ true
  pub round-count : rounds_allowed (length key) rounds ≡ true
  pub twelve : length grant ≡ 12
  pub asked : (right ≡ 1) ⊎ (right ≡ 2)
  pub some_block : block ≡ 0 → ⊥
  pub contractor : ℕ
  pub count : ℕ
  pub granted : ℕ
  pub covered : covers granted right ≡ true
  pub plain : opened_grant key rounds grant ≡ plain_grant contractor count block granted
  pub least : 1 ≤ contractor
  pub most : contractor ≤ 200
  pub on_roll : count_of roll contractor ≡ count
  pub odd : count % 2 ≡ 1
  pub below : count < 65535
  pub within : right ≤ highest (figure_of roll contractor)

-- a check that is not refused: it answers with this contractor, and with the right that was asked for
pub record Accepted (key : List ℕ) (rounds : ℕ) (roll : Roll) (grant : List ℕ) (block right contractor : ℕ) : Type 0 where
  pub number : check_number key rounds roll grant block right ≡ 0
  pub answers-contractor : check_contractor key rounds roll grant block right ≡ contractor
  pub answers-right : check_right key rounds roll grant block right ≡ right

unfoldable pub OpensExactlyWhen : Type 0
OpensExactlyWhen = (key : List ℕ) → AreBytes key → (rounds : ℕ) (roll : Roll) (grant : List ℕ) → AreBytes grant
    → (block : ℕ) → block < 4294967296 → (right : ℕ)
    → (check_number key rounds roll grant block right ≡ 0 → Opening key rounds roll grant block right)
    × ((o : Opening key rounds roll grant block right) → Accepted key rounds roll grant block right o.contractor)

-- ---- each refusal has its reason, and the first in order is given
pub record OrderOfCalls (key : List ℕ) (rounds : ℕ) (roll : Roll) (contractor : ℕ) (grant : List ℕ) (block right : ℕ) (out : List ℕ) : Type 0 where
  pub enter : Ordered (enter_tries contractor right (count_of roll contractor))
  pub withdraw : Ordered (withdraw_tries contractor (count_of roll contractor))
  pub change : Ordered (change_tries contractor right (count_of roll contractor))
  pub issue : Ordered (issue_tries key rounds roll contractor block right out)
  pub check : Ordered (check_tries key rounds roll grant block right)

unfoldable pub EachRefusalFirst : Type 0
EachRefusalFirst = (key : List ℕ) (rounds : ℕ) (roll : Roll) (contractor : ℕ) (grant : List ℕ) (block right : ℕ) (out : List ℕ)
    → OrderOfCalls key rounds roll contractor grant block right out

-- ---- issue, then check
-- an issue that is not refused: a key and a size block as the code has them
pub record Issued (key : List ℕ) (rounds : ℕ) (roll : Roll) (contractor block right : ℕ) (out : List ℕ) : Type 0 where
  pub key-bytes : AreBytes key
  pub block_small : block < 4294967296
  pub number : issue_number key rounds roll contractor block right out ≡ 0

-- on the same roll the grant opens for its block and right; a grant to overwrite opens for reading too, answering reading, and one to read is refused
-- with 10 for overwriting. For what is no right it is 7; for another block 9, with either right, and 14 where that block is 0
pub record Checks (key : List ℕ) (rounds : ℕ) (roll : Roll) (contractor block right : ℕ) : Type 0 where
  pub opens : Accepted key rounds roll (issued_grant key rounds roll contractor block right) block right contractor
  pub looks : right ≡ 2 → Accepted key rounds roll (issued_grant key rounds roll contractor block right) block 1 contractor
  pub only_reads : right ≡ 1 → check_number key rounds roll (issued_grant key rounds roll contractor block right) block 2 ≡ 10
  pub no_right : (asked : ℕ) → is_right asked ≡ false
      → check_number key rounds roll (issued_grant key rounds roll contractor block right) block asked ≡ 7
  pub other_block : (b asked : ℕ) → (b ≡ block → ⊥) → (b ≡ 0 → ⊥) → is_right asked ≡ true
      → check_number key rounds roll (issued_grant key rounds roll contractor block right) b asked ≡ 9
  pub block_zero : (asked : ℕ) → is_right asked ≡ true
      → check_number key rounds roll (issued_grant key rounds roll contractor block right) 0 asked ≡ 14

unfoldable pub IssuedOpens : Type 0
IssuedOpens = (key : List ℕ) (rounds : ℕ) (roll : Roll) (contractor block right : ℕ) (out : List ℕ)
    → Issued key rounds roll contractor block right out → Checks key rounds roll contractor block right

-- ---- looking before overwriting
-- whatever opens for overwriting opens for reading, with the same contractor
unfoldable pub OverwritingOpensReading : Type 0
OverwritingOpensReading = (key : List ℕ) (rounds : ℕ) (roll : Roll) (grant : List ℕ) (block contractor : ℕ)
    → Accepted key rounds roll grant block 2 contractor → Accepted key rounds roll grant block 1 contractor

-- the roll of the examples: the empty roll, on which contractor 7 was entered for overwriting
abbrev pub roll7 : Roll
roll7 = entered_roll empty_roll 7 2

-- not the other way round. Under a key of twelve zeros with ten rounds, contractor 7 gets a grant to read size block 300: it opens for reading, and
-- asked for overwriting it is refused with 10
unfoldable pub ReadingDoesNotOverwrite : Type 0
ReadingDoesNotOverwrite =
    Accepted (replicate 12 0) 10 roll7 (issued_grant (replicate 12 0) 10 roll7 7 300 1) 300 1 7
    × (check_number (replicate 12 0) 10 roll7 (issued_grant (replicate 12 0) 10 roll7 7 300 1) 300 2 ≡ 10)

-- only a grant to overwrite opens for overwriting
unfoldable pub OnlyOverwritingOverwrites : Type 0
OnlyOverwritingOverwrites = (key : List ℕ) (rounds : ℕ) (roll : Roll) (grant : List ℕ) (block : ℕ)
    → check_number key rounds roll grant block 2 ≡ 0 → right_in (opened_grant key rounds grant) ≡ 2

-- 10 is given only where overwriting is asked of a whole grant to read
pub record ReadingGrant (key : List ℕ) (rounds : ℕ) (grant : List ℕ) (right : ℕ) : Type 0 where
  pub asked : right ≡ 2
  pub whole : is_grant (opened_grant key rounds grant) ≡ true
  pub reads : right_in (opened_grant key rounds grant) ≡ 1

unfoldable pub TenOnlyForOverwriting : Type 0
TenOnlyForOverwriting = (key : List ℕ) (rounds : ℕ) (roll : Roll) (grant : List ℕ) (block right : ℕ)
    → check_number key rounds roll grant block right ≡ 10 → ReadingGrant key rounds grant right

-- ---- revocation, over all histories
-- a grant opens for no size block and no right
abbrev pub OpensNothing : List ℕ → ℕ → Roll → List ℕ → Type 0
OpensNothing key rounds roll grant = (block right : ℕ) → check_number key rounds roll grant block right ≡ 0 → ⊥

-- a grant from before now, of a contractor's: it names them, and a count that is not above theirs on the roll
pub record Earlier (key : List ℕ) (rounds : ℕ) (roll : Roll) (contractor : ℕ) (grant : List ℕ) : Type 0 where
  pub names : contractor_in (opened_grant key rounds grant) ≡ contractor
  pub not_above : count_in (opened_grant key rounds grant) ≤ count_of roll contractor

-- such is every grant that was made as an issue from that roll makes it, for any size block and with any right: by the rules of before requests 6 and 7
-- too, so that grants for size block 0 are among them
unfoldable pub IssuedIsEarlier : Type 0
IssuedIsEarlier = (key : List ℕ) (rounds : ℕ) → Settings key rounds → (roll : Roll) (contractor block right : ℕ)
    → contractor < 65536 → count_of roll contractor < 65536 → right < 256
    → Earlier key rounds roll contractor (issued_grant key rounds roll contractor block right)

-- whatever is entered, withdrawn and changed: once the contractor's withdrawal was accepted, it opens nothing, under that key and round count
unfoldable pub EarlierNeverOpens : Type 0
EarlierNeverOpens = (key : List ℕ) (rounds : ℕ) (roll : Roll) (contractor : ℕ) (grant : List ℕ)
    → Earlier key rounds roll contractor grant → IsRoll roll
    → (hs : List Change) → Withdrawn contractor hs roll → OpensNothing key rounds (roll_after hs roll) grant

-- and for two rooms that share the roll, in whatever order their calls arrive: once either has asked for the withdrawal, whether its call was accepted
-- or not
unfoldable pub EarlierInTwoRooms : Type 0
EarlierInTwoRooms = (key : List ℕ) (rounds : ℕ) (roll : Roll) (contractor : ℕ) (grant : List ℕ)
    → Earlier key rounds roll contractor grant → IsRoll roll
    → (xs ys zs : List Change) → Merge xs ys zs → Withdraws contractor xs ⊎ Withdraws contractor ys → OpensNothing key rounds (roll_after zs roll) grant

-- and so for what an issue wrote that was not refused
unfoldable pub RevokedNeverOpens : Type 0
RevokedNeverOpens = (key : List ℕ) (rounds : ℕ) (roll : Roll) (contractor block right : ℕ) (out : List ℕ)
    → Issued key rounds roll contractor block right out → IsRoll roll
    → (hs : List Change) → Withdrawn contractor hs roll
    → OpensNothing key rounds (roll_after hs roll) (issued_grant key rounds roll contractor block right)

-- in two rooms too
unfoldable pub RevokedInTwoRooms : Type 0
RevokedInTwoRooms = (key : List ℕ) (rounds : ℕ) (roll : Roll) (contractor block right : ℕ) (out : List ℕ)
    → Issued key rounds roll contractor block right out → IsRoll roll
    → (xs ys zs : List Change) → Merge xs ys zs → Withdraws contractor xs ⊎ Withdraws contractor ys
    → OpensNothing key rounds (roll_after zs roll) (issued_grant key rounds roll contractor block right)

-- there are such issues and withdrawals: under a key of twelve zeros with ten rounds contractor 7 gets a grant, is demoted, withdrawn, and entered again
-- for overwriting; the withdrawal is asked for by one room, and all else by the other
abbrev pub calls7 : List Change
calls7 = change 7 1 ∷ withdraw 7 ∷ enter 7 2 ∷ []

pub record RevocationExample : Type 0 where
  pub issued : Issued (replicate 12 0) 10 roll7 7 300 2 (replicate 12 0)
  pub is_roll : IsRoll roll7
  pub withdrawn : Withdrawn 7 calls7 roll7
  pub rooms : Merge (withdraw 7 ∷ []) (change 7 1 ∷ enter 7 2 ∷ []) calls7
  pub asked : Withdraws 7 (withdraw 7 ∷ [])

unfoldable pub RevocationHappens : Type 0
RevocationHappens = RevocationExample

-- ---- others
-- a check answers the same on both rolls
pub record SameCheck (key : List ℕ) (rounds : ℕ) (roll other : Roll) (grant : List ℕ) (block right : ℕ) : Type 0 where
  pub number : check_number key rounds other grant block right ≡ check_number key rounds roll grant block right
  pub answers-contractor : check_contractor key rounds other grant block right ≡ check_contractor key rounds roll grant block right
  pub answers-right : check_right key rounds other grant block right ≡ check_right key rounds roll grant block right

-- entering and withdrawing contractors, and changing their rights, changes no check of a grant to another
unfoldable pub OthersUndisturbed : Type 0
OthersUndisturbed = (key : List ℕ) (rounds : ℕ) (roll : Roll) (grant : List ℕ) (block right : ℕ) (hs : List Change)
    → Spares (contractor_in (opened_grant key rounds grant)) hs → SameCheck key rounds roll (roll_after hs roll) grant block right

-- ---- verdicts
-- number, contractor and right tell a verdict: so the check's contract fixes it
unfoldable pub NumbersTellVerdicts : Type 0
NumbersTellVerdicts = (v w : Verdict)
    → verdict_number v ≡ verdict_number w → verdict_contractor v ≡ verdict_contractor w → verdict_right v ≡ verdict_right w → v ≡ w
