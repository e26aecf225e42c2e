-- A term of each type of specs/Claims.antt.
use mathlib.Core.Path.{◌≡◌, refl, sym, subst}
use mathlib.Core.List.{List, [], ◌∷◌}
use Prim.Native.Nat.{ℕ}
use native.Mathlib.Omega.{arith}
use lib.ListN.{replicate}
use Rattle.refusal.specs.Tries.{first, answered}
use Rattle.roll.specs.declared.Roll.{Roll}
use Rattle.roll.specs.Roll.{empty_roll, count_of, figure_of, in_standing, with_entry}
use Rattle.roll_changes.specs.Changes.{entered_roll, change_number, changed_roll}
use Rattle.size_blocks.specs.SizeBlocks.{is_size_block}
use Rattle.rights.specs.Rights.{highest, within_highest}
use Rattle.issuing.specs.Issuing.{issue_number}
use Rattle.histories.specs.Histories.{enter, change, withdraw, roll_after, Withdrawn, later, Raised, by_entering, raised-later}
use Rattle.revocation.specs.Claims.{IssuedOpens, OverwritingOpensReading, roll7}
use Rattle.revocation.proofs.Claims.{issued-opens, overwriting_opens_reading, issued_7, entered_7}
use Rattle.demotion.specs.Claims.{DemotedNeverOverwrites, OnlyTwoOverwrites, DemotedIsAbove, DemotedStillReads, RaisedAsBefore}
use Rattle.demotion.specs.Claims.{TwentyFiveExactlyAbove, IssueTwentyFiveExactlyAbove, grant7, DemotionHappens}
use Rattle.demotion.proofs.Demoted.{no_overwriting, never_overwrites, above, same_count, same_reading}
use Rattle.demotion.proofs.Demoted.{same-issue, same-grant, raises, twenty_five, is-above, issue_twenty_five, issue_is_above, named_by, accepted_as}

pub demoted_never_overwrites : DemotedNeverOverwrites
unfolding DemotedNeverOverwrites
demoted_never_overwrites = never_overwrites

pub only_two_overwrites : OnlyTwoOverwrites
unfolding OnlyTwoOverwrites
only_two_overwrites = no_overwriting

pub demoted_is_above : DemotedIsAbove
unfolding DemotedIsAbove
demoted_is_above roll is c e hs m n = above roll is c e hs n m

pub demoted_still_reads : DemotedStillReads
unfolding DemotedStillReads
demoted_still_reads roll is c e hs n =
    let other = roll_after hs (changed_roll roll c 1) in
    let count = same_count roll is c e hs n in
    record {
      checks = λ key rounds grant block named.
          same_reading key rounds roll other grant block (subst (λ (d : ℕ). count_of other d ≡ count_of roll d) (sym named) count);
      issues = λ key rounds block out. (same-issue key rounds roll other c block out count, same-grant key rounds roll other c block out count);
    }

pub raised_as_before : RaisedAsBefore
unfolding RaisedAsBefore
raised_as_before roll is c two e hs n = raises roll is c e hs n two

pub twenty_five_exactly_above : TwentyFiveExactlyAbove
unfolding TwentyFiveExactlyAbove
twenty_five_exactly_above key rounds roll grant block right =
    (twenty_five key rounds roll grant block right, is-above key rounds roll grant block right)

pub issue_twenty_five_exactly_above : IssueTwentyFiveExactlyAbove
unfolding IssueTwentyFiveExactlyAbove
issue_twenty_five_exactly_above key rounds roll c block right out =
    (issue_twenty_five key rounds roll c block right out, issue_is_above key rounds roll c block right out)

-- ---- the example
demoted_7 : change_number roll7 7 1 ≡ 0
unfolding first answered empty_roll count_of in_standing with_entry entered_roll
demoted_7 = refl

not_issued_7 : issue_number (replicate 12 0) 10 (changed_roll roll7 7 1) 7 300 2 (replicate 12 0) ≡ 25
unfolding first answered is_size_block empty_roll count_of figure_of in_standing with_entry entered_roll changed_roll within_highest highest
not_issued_7 = refl

-- no withdrawal, and an enter for reading alone, raise anybody; the enter before them is refused with 21
raised_by_none : {roll : Roll} → Raised 7 [] roll → ⊥
raised_by_none = elim [ ]

raised_by_reading : {roll : Roll} → Raised 7 (enter 7 1 ∷ []) roll → ⊥
raised_by_reading (raised-later w) = raised_by_none w

raised_by_withdrawing : {roll : Roll} → Raised 7 (withdraw 7 ∷ enter 7 1 ∷ []) roll → ⊥
raised_by_withdrawing (raised-later w) = raised_by_reading w

not_raised_7 : Raised 7 (enter 7 2 ∷ withdraw 7 ∷ enter 7 1 ∷ []) (changed_roll roll7 7 1) → ⊥
unfolding first answered empty_roll count_of in_standing with_entry entered_roll changed_roll
not_raised_7 (by_entering e) = omega (arith, e)
not_raised_7 (raised-later w) = raised_by_withdrawing w

withdrawn_by_none : {roll : Roll} → Withdrawn 7 [] roll → ⊥
withdrawn_by_none = elim [ ]

not_withdrawn_7 : Withdrawn 7 (change 7 1 ∷ change 7 2 ∷ enter 8 1 ∷ []) (changed_roll roll7 7 1) → ⊥
not_withdrawn_7 (later (later (later w))) = withdrawn_by_none w

overwriting_7 : figure_of roll7 7 ≡ 2
unfolding first answered empty_roll count_of figure_of in_standing with_entry entered_roll
overwriting_7 = refl

pub demotion_happens : DemotionHappens
unfolding DemotionHappens IssuedOpens OverwritingOpensReading DemotedStillReads roll_after
demotion_happens =
    let key : List ℕ = replicate 12 0 in
    let opens = (issued-opens key 10 roll7 7 300 2 key (issued_7 2 refl)).opens in
    let named = named_by key 10 roll7 grant7 300 2 7 opens in
    let again = raises roll7 entered_7 7 demoted_7 [] withdrawn_by_none overwriting_7 in
    record {
      opens = opens;
      demoted = demoted_7;
      above = above roll7 entered_7 7 demoted_7 [] withdrawn_by_none raised_by_none key 10 grant7 300 named opens.number;
      not_issued = not_issued_7;
      reads = accepted_as ((demoted_still_reads roll7 entered_7 7 demoted_7 [] withdrawn_by_none).checks key 10 grant7 300 named)
          (overwriting_opens_reading key 10 roll7 grant7 300 7 opens);
      not_raised = not_raised_7;
      not_withdrawn = not_withdrawn_7;
      raises = again.number;
      raised = accepted_as (again.checks key 10 grant7 300 2 named) opens;
    }
