-- What is claimed of demoted contractors: request 6, "Demoting without dropping". Demoting is a change of the highest right to reading, 1; raising is
-- one to overwriting, 2. A term of each type stands in proofs/Claims.antt.
use Rattle.std.specs.Prelude.{◌≡◌, List, [], ◌∷◌, ℕ, replicate}
use Rattle.roll.specs.declared.Roll.{Roll}
use Rattle.roll.specs.Roll.{figure_of}
use Rattle.roll_changes.specs.Changes.{change_number, changed_roll}
use Rattle.histories.specs.Histories.{Change, enter, change, withdraw, roll_after, Withdrawn, Raised, IsRoll}
use Rattle.grant.specs.Grants.{contractor_in, right_in}
use Rattle.issuing.specs.Issuing.{issue_number, issued_grant, issue_output}
use Rattle.checking.specs.Checking.{opened_grant, check_number}
use Rattle.revocation.specs.Claims.{Accepted, SameCheck, roll7}

-- ---- no overwriting
-- on a roll no grant of a contractor's opens for overwriting, under any key and round count and for any size block, whenever it was issued; and none is
-- issued
pub record NoOverwriting (roll : Roll) (c : ℕ) : Type 0 where
  pub opens : (key : List ℕ) (rounds : ℕ) (grant : List ℕ) (block : ℕ) → contractor_in (opened_grant key rounds grant) ≡ c
      → check_number key rounds roll grant block 2 ≡ 0 → ⊥
  pub issued : (key : List ℕ) (rounds block : ℕ) (out : List ℕ) → issue_number key rounds roll c block 2 out ≡ 0 → ⊥

-- so it is after an accepted demotion, over every list of calls in which the contractor is neither raised nor entered again for overwriting
unfoldable pub DemotedNeverOverwrites : Type 0
DemotedNeverOverwrites = (roll : Roll) → IsRoll roll → (c : ℕ) → change_number roll c 1 ≡ 0
    → (hs : List Change) → (Raised c hs (changed_roll roll c 1) → ⊥) → NoOverwriting (roll_after hs (changed_roll roll c 1)) c

-- and wherever the figure is not 2, whatever it is: 0, 3 and 255 allow no more than 1
unfoldable pub OnlyTwoOverwrites : Type 0
OnlyTwoOverwrites = (roll : Roll) (c : ℕ) → (figure_of roll c ≡ 2 → ⊥) → NoOverwriting roll c

-- what opened for overwriting before the demotion is refused with 25 after it, until the contractor is raised or withdrawn
unfoldable pub DemotedIsAbove : Type 0
DemotedIsAbove = (roll : Roll) → IsRoll roll → (c : ℕ) → change_number roll c 1 ≡ 0
    → (hs : List Change) → (Raised c hs (changed_roll roll c 1) → ⊥) → (Withdrawn c hs (changed_roll roll c 1) → ⊥)
    → (key : List ℕ) (rounds : ℕ) (grant : List ℕ) (block : ℕ) → contractor_in (opened_grant key rounds grant) ≡ c
    → check_number key rounds roll grant block 2 ≡ 0 → check_number key rounds (roll_after hs (changed_roll roll c 1)) grant block 2 ≡ 25

-- ---- reading goes on
-- a check of the contractor's grants for reading answers what it answered on the roll before, so that it opens for reading what it opened for reading,
-- the grants for overwriting among them; and issuing them a grant for reading answers and writes what it did
pub record ReadsAs (roll other : Roll) (c : ℕ) : Type 0 where
  pub checks : (key : List ℕ) (rounds : ℕ) (grant : List ℕ) (block : ℕ) → contractor_in (opened_grant key rounds grant) ≡ c
      → SameCheck key rounds roll other grant block 1
  pub issues : (key : List ℕ) (rounds block : ℕ) (out : List ℕ)
      → (issue_number key rounds other c block 1 out ≡ issue_number key rounds roll c block 1 out)
      × (issue_output key rounds other c block 1 out ≡ issue_output key rounds roll c block 1 out)

-- so it is after a demotion, until the contractor is withdrawn
unfoldable pub DemotedStillReads : Type 0
DemotedStillReads = (roll : Roll) → IsRoll roll → (c : ℕ) → change_number roll c 1 ≡ 0
    → (hs : List Change) → (Withdrawn c hs (changed_roll roll c 1) → ⊥) → ReadsAs roll (roll_after hs (changed_roll roll c 1)) c

-- ---- raised again
-- raising a contractor on a roll is accepted, and makes every check of their grants what it is on another
pub record Raises (roll other : Roll) (c : ℕ) : Type 0 where
  pub number : change_number other c 2 ≡ 0
  pub checks : (key : List ℕ) (rounds : ℕ) (grant : List ℕ) (block right : ℕ) → contractor_in (opened_grant key rounds grant) ≡ c
      → SameCheck key rounds roll (changed_roll other c 2) grant block right

-- a demotion moves no count: whatever is called after it, unless the contractor is withdrawn, raising them makes every check what it was before it, so
-- that their grants for overwriting open again
unfoldable pub RaisedAsBefore : Type 0
RaisedAsBefore = (roll : Roll) → IsRoll roll → (c : ℕ) → figure_of roll c ≡ 2 → change_number roll c 1 ≡ 0
    → (hs : List Change) → (Withdrawn c hs (changed_roll roll c 1) → ⊥) → Raises roll (roll_after hs (changed_roll roll c 1)) c

-- ---- when 25 is given
-- exactly where overwriting is asked of a grant to overwrite that opens the size block for reading, so that all else holds that opening asks for, and
-- whose contractor's figure is not 2
pub record Above (key : List ℕ) (rounds : ℕ) (roll : Roll) (grant : List ℕ) (block right : ℕ) : Type 0 where
  pub asked : right ≡ 2
  pub overwrites : right_in (opened_grant key rounds grant) ≡ 2
  pub reads : check_number key rounds roll grant block 1 ≡ 0
  pub low : figure_of roll (contractor_in (opened_grant key rounds grant)) ≡ 2 → ⊥

unfoldable pub TwentyFiveExactlyAbove : Type 0
TwentyFiveExactlyAbove = (key : List ℕ) (rounds : ℕ) (roll : Roll) (grant : List ℕ) (block right : ℕ)
    → (check_number key rounds roll grant block right ≡ 25 → Above key rounds roll grant block right)
    × (Above key rounds roll grant block right → check_number key rounds roll grant block right ≡ 25)

-- and by an issue exactly where overwriting is asked for a contractor whose figure is not 2, and to whom a grant for reading would be issued
pub record IssueAbove (key : List ℕ) (rounds : ℕ) (roll : Roll) (c block right : ℕ) (out : List ℕ) : Type 0 where
  pub asked : right ≡ 2
  pub reads : issue_number key rounds roll c block 1 out ≡ 0
  pub low : figure_of roll c ≡ 2 → ⊥

unfoldable pub IssueTwentyFiveExactlyAbove : Type 0
IssueTwentyFiveExactlyAbove = (key : List ℕ) (rounds : ℕ) (roll : Roll) (c block right : ℕ) (out : List ℕ)
    → (issue_number key rounds roll c block right out ≡ 25 → IssueAbove key rounds roll c block right out)
    × (IssueAbove key rounds roll c block right out → issue_number key rounds roll c block right out ≡ 25)

-- ---- all of this happens
-- under a key of twelve zeros with ten rounds, contractor 7, entered for overwriting on an empty roll, gets a grant to overwrite size block 300
abbrev pub grant7 : List ℕ
grant7 = issued_grant (replicate 12 0) 10 roll7 7 300 2

pub record Example : Type 0 where
  -- it opens for overwriting
  pub opens : Accepted (replicate 12 0) 10 roll7 grant7 300 2 7
  -- the demotion is accepted; overwriting, and the issue of a grant for it, are then refused with 25, and reading goes on
  pub demoted : change_number roll7 7 1 ≡ 0
  pub above : check_number (replicate 12 0) 10 (changed_roll roll7 7 1) grant7 300 2 ≡ 25
  pub not_issued : issue_number (replicate 12 0) 10 (changed_roll roll7 7 1) 7 300 2 (replicate 12 0) ≡ 25
  pub reads : Accepted (replicate 12 0) 10 (changed_roll roll7 7 1) grant7 300 1 7
  -- there are lists of calls that raise nobody: an enter for overwriting that is refused, since 7 is in standing, a withdrawal, and an enter for reading
  pub not_raised : Raised 7 (enter 7 2 ∷ withdraw 7 ∷ enter 7 1 ∷ []) (changed_roll roll7 7 1) → ⊥
  -- and lists in which 7 is not withdrawn
  pub not_withdrawn : Withdrawn 7 (change 7 1 ∷ change 7 2 ∷ enter 8 1 ∷ []) (changed_roll roll7 7 1) → ⊥
  -- raised again, which is accepted, the grant opens for overwriting
  pub raises : change_number (changed_roll roll7 7 1) 7 2 ≡ 0
  pub raised : Accepted (replicate 12 0) 10 (changed_roll (changed_roll roll7 7 1) 7 2) grant7 300 2 7

unfoldable pub DemotionHappens : Type 0
DemotionHappens = Example
