-- A term of each type of specs/Claims.antt.
use mathlib.Core.Path.{ap, ◌∙◌}
use Rattle.roll.specs.declared.Entry.{Entry}
use Rattle.roll.specs.Roll.{count_of, in_standing}
use Rattle.histories.specs.Histories.{enter, change, withdraw, changed}
use Rattle.histories.specs.Claims.{CountsNeverFall, ChangesMoveNoCount, OthersEntriesStay, RefusedChangesNothing, CallsCount, CallsSetRights}
use Rattle.histories.specs.Claims.{NothingWraps, NobodyComesBack, WithdrawalCounts, WithdrawsCounts, StandingStays, NotRaisedUnasked}
use Rattle.histories.proofs.Calls.{entering, withdrawing, changed-own, changed-refused, after_other, after_roll, empty_roll_lem}
use Rattle.histories.proofs.Counts.{after_grows, right_moves_none, entered-own, withdrawn-own, entered_stands}
use Rattle.histories.proofs.Counts.{withdrawn-out, spent_out, counted_up, asked_counts, spent_stays, not_back}
use Rattle.histories.proofs.Demoted.{stays, stays-low}

pub counts_never_fall : CountsNeverFall
unfolding CountsNeverFall
counts_never_fall = after_grows

pub changes_move_no_count : ChangesMoveNoCount
unfolding ChangesMoveNoCount
changes_move_no_count = right_moves_none

pub others_entries_stay : OthersEntriesStay
unfolding OthersEntriesStay
others_entries_stay = after_other

pub refused_changes_nothing : RefusedChangesNothing
unfolding RefusedChangesNothing
refused_changes_nothing = changed-refused

pub calls_count : CallsCount
unfolding CallsCount
calls_count roll r c = record {
  entered = λ right e.
      let o = entered-own roll r c right e in
      let w = entering roll c right e in
      (o, ap in_standing o ∙ entered_stands (count_of roll c) w.out w.below);
  withdrawn = λ e.
      let o = withdrawn-own roll r c e in
      (o, ap in_standing o ∙ withdrawn-out (count_of roll c) (withdrawing roll c e).standing);
}

pub calls_set_rights : CallsSetRights
unfolding CallsSetRights changed
calls_set_rights roll r c = record {
  entered = λ right e. ap (λ (x : Entry). x.figure) (changed-own (enter c right) roll r e);
  given = λ right e. ap (λ (x : Entry). x.figure) (changed-own (change c right) roll r e);
  withdrawn = λ e. ap (λ (x : Entry). x.figure) (changed-own (withdraw c) roll r e);
}

pub nothing_wraps : NothingWraps
unfolding NothingWraps
nothing_wraps = (empty_roll_lem, after_roll)

pub nobody_comes_back : NobodyComesBack
unfolding NobodyComesBack
nobody_comes_back hs roll r c hc = record {
  stays = λ l. spent_stays hs roll c hc l;
  not_back = λ l w. not_back hs roll r c hc l w;
  out = λ l. spent_out _ l;
}

pub withdrawal_counts : WithdrawalCounts
unfolding WithdrawalCounts
withdrawal_counts = counted_up

pub withdraws_counts : WithdrawsCounts
unfolding WithdrawsCounts
withdraws_counts = asked_counts

pub standing_stays : StandingStays
unfolding StandingStays
standing_stays hs roll r c s n = stays hs roll c s n

pub not_raised_unasked : NotRaisedUnasked
unfolding NotRaisedUnasked
not_raised_unasked = stays-low
