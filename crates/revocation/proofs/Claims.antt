-- A term of each type of specs/Claims.antt.
use mathlib.Core.Path.{◌≡◌, refl}
use mathlib.Core.Bool.{true}
use Prim.Native.Nat.{ℕ}
use lib.ListN.{length, replicate}
use Rattle.refusal.specs.Tries.{first, answered}
use Rattle.roll.specs.Roll.{empty_roll, count_of, figure_of, entry_of, in_standing, with_entry}
use Rattle.roll_changes.specs.Changes.{enter_tries, entered_roll, withdraw_tries, change_tries, changed_roll}
use Rattle.histories.specs.Histories.{enter, changed, Withdrawn, here, later, now_asked, IsRoll}
use Rattle.histories.specs.Histories as H
use Rattle.histories.proofs.Calls.{zeros-small, changed_roll_lem, empty_roll_lem}
use Rattle.histories.proofs.Counts.{left_seen, right_seen}
use mathlib.Core.Logic.{inl, inr}
use lib.Dec.{eqb, lit<}
use Rattle.refusal.proofs.Tries.{none-given}
use Rattle.refusal.proofs.Ladder.{ordered}
use Rattle.size_blocks.specs.SizeBlocks.{is_size_block}
use Rattle.rights.specs.Rights.{is_right}
use Rattle.rights.proofs.Rights.{within_two}
use Rattle.issuing.specs.Issuing.{issue_tries}
use Rattle.issuing.proofs.Passed.{wanted_passes}
use Rattle.checking.specs.Checking.{entry_now, check_tries}
use Rattle.revocation.specs.Claims.{Issued, OpensExactlyWhen, EachRefusalFirst, IssuedOpens, OverwritingOpensReading, ReadingDoesNotOverwrite}
use Rattle.revocation.specs.Claims.{OnlyOverwritingOverwrites, TenOnlyForOverwriting, RevokedNeverOpens, RevokedInTwoRooms, RevocationHappens}
use Rattle.revocation.specs.Claims.{IssuedIsEarlier, EarlierNeverOpens, EarlierInTwoRooms, OthersUndisturbed, NumbersTellVerdicts, roll7, calls7}
use Rattle.revocation.proofs.Checks.{opening, accepted}
use Rattle.revocation.proofs.Issued.{is_earlier, earlier_revoked, earlier_asked, checks, revoked, revoked_asked}
use Rattle.revocation.proofs.Looks.{looks, overwrites, ten}
use Rattle.revocation.proofs.Others.{same_check, verdicts_told}

pub opens_exactly_when : OpensExactlyWhen
unfolding OpensExactlyWhen
opens_exactly_when key hk rounds roll grant hg block few right =
    (opening key rounds roll grant block right hk hg, accepted key rounds roll grant block right few)

pub each_refusal_first : EachRefusalFirst
unfolding EachRefusalFirst
each_refusal_first key rounds roll contractor grant block right out = record {
  enter = ordered (enter_tries contractor right (count_of roll contractor)) refl;
  withdraw = ordered (withdraw_tries contractor (count_of roll contractor)) refl;
  change = ordered (change_tries contractor right (count_of roll contractor)) refl;
  issue = ordered (issue_tries key rounds roll contractor block right out) refl;
  check = ordered (check_tries key rounds roll grant block right) refl;
}

pub issued-opens : IssuedOpens
unfolding IssuedOpens
issued-opens = checks

-- contractor 7, entered for overwriting on an empty roll, gets a grant with either right
pub issued_7 : (right : ℕ) → is_right right ≡ true → Issued (replicate 12 0) 10 roll7 7 300 right (replicate 12 0)
unfolding first answered is_size_block empty_roll count_of figure_of in_standing with_entry entered_roll
issued_7 right q =
    let tries = issue_tries (replicate 12 0) 10 roll7 7 300 right (replicate 12 0) in
    record {
      key-bytes = zeros-small (lit< tt) 12;
      block_small = lit< tt;
      number = none-given tries (
        refl,
        (
          refl,
          wanted_passes 12 7 300 right (entry_of roll7 7)
              record { fits = refl; known = refl; asked = q; some_block = refl; stands = refl; within = within_two right q },
        ),
      );
    }

pub overwriting_opens_reading : OverwritingOpensReading
unfolding OverwritingOpensReading
overwriting_opens_reading = looks

pub reading_does_not_overwrite : ReadingDoesNotOverwrite
unfolding ReadingDoesNotOverwrite
reading_does_not_overwrite =
    let c = checks (replicate 12 0) 10 roll7 7 300 1 (replicate 12 0) (issued_7 1 refl) in
    (c.opens, c.only_reads refl)

pub only_overwriting_overwrites : OnlyOverwritingOverwrites
unfolding OnlyOverwritingOverwrites
only_overwriting_overwrites = overwrites

pub ten_only_for_overwriting : TenOnlyForOverwriting
unfolding TenOnlyForOverwriting
ten_only_for_overwriting key rounds roll grant block right e =
    ten key rounds (eqb (length grant) 12) grant (entry_now key rounds roll grant) block right e

pub issued_is_earlier : IssuedIsEarlier
unfolding IssuedIsEarlier
issued_is_earlier = is_earlier

pub earlier_never_opens : EarlierNeverOpens
unfolding EarlierNeverOpens
earlier_never_opens = earlier_revoked

pub earlier_in_two_rooms : EarlierInTwoRooms
unfolding EarlierInTwoRooms
earlier_in_two_rooms key rounds roll contractor grant g z xs ys zs m w =
    earlier_asked key rounds roll contractor grant g z zs (elim w [ inl l ↦ left_seen m l | inr r ↦ right_seen m r ])

pub revoked_never_opens : RevokedNeverOpens
unfolding RevokedNeverOpens
revoked_never_opens = revoked

pub revoked_in_two_rooms : RevokedInTwoRooms
unfolding RevokedInTwoRooms
revoked_in_two_rooms key rounds roll contractor block right out i z xs ys zs m w =
    revoked_asked key rounds roll contractor block right out i z zs (elim w [ inl l ↦ left_seen m l | inr r ↦ right_seen m r ])

pub entered_7 : IsRoll roll7
unfolding changed
entered_7 = changed_roll_lem (enter 7 2) empty_roll empty_roll_lem

pub withdrawn_7 : Withdrawn 7 calls7 roll7
unfolding first answered empty_roll count_of figure_of in_standing with_entry entered_roll changed_roll changed
withdrawn_7 = later (here refl)

pub revocation_happens : RevocationHappens
unfolding RevocationHappens
revocation_happens = record {
  issued = issued_7 2 refl;
  is_roll = entered_7;
  withdrawn = withdrawn_7;
  rooms = H.right (H.left (H.right H.none));
  asked = now_asked;
}

pub others_undisturbed : OthersUndisturbed
unfolding OthersUndisturbed
others_undisturbed = same_check

pub numbers_tell_verdicts : NumbersTellVerdicts
unfolding NumbersTellVerdicts
numbers_tell_verdicts = verdicts_told
