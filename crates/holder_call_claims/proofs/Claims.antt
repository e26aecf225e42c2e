-- A term of each type of specs/Claims.antt.
use Rattle.holder_call_claims.specs.Claims.{AnyHolderRoute, BytesTurnHome, BrokenLentIsRefused, OtherLengthIsRefused}
use Rattle.holder_call_claims.specs.Claims.{LentInOrder, RefusedCallKeepsBytes, WalksAnswerSo, CodesTellWalks}
use mathlib.Core.Path.{refl}
use Rattle.refusal.proofs.Ladder.{ordered}
use Rattle.stage_calls.specs.StageCalls.{stage_call_tries}
use Rattle.holder_calls.specs.HolderCalls.{make_call_tries}
use Rattle.holder_subkey_call.specs.SubkeyCall.{held_subkey_tries}
use Rattle.holder_call_claims.proofs.Lent as lent
use Rattle.holder_call_claims.proofs.Routes.{any_route_of, turn-home}
use Rattle.holder_call_claims.proofs.Codes as codes

pub any_holder_route : AnyHolderRoute
unfolding AnyHolderRoute
any_holder_route = any_route_of

pub lent_in_order : LentInOrder
unfolding LentInOrder
lent_in_order key lent n out = record {
  stage = λ room. ordered (stage_call_tries room key n out) refl;
  made = ordered (make_call_tries key lent) refl;
  subkey = ordered (held_subkey_tries lent out) refl;
}

pub bytes_turn_home : BytesTurnHome
unfolding BytesTurnHome
bytes_turn_home = turn-home

pub broken_lent_is_refused : BrokenLentIsRefused
unfolding BrokenLentIsRefused
broken_lent_is_refused = lent.broken_lent

pub other_length_is_refused : OtherLengthIsRefused
unfolding OtherLengthIsRefused
other_length_is_refused = lent.other_length

pub refused_call_keeps_bytes : RefusedCallKeepsBytes
unfolding RefusedCallKeepsBytes
refused_call_keeps_bytes = lent.refused_keeps

pub walks_answer_so : WalksAnswerSo
unfolding WalksAnswerSo
walks_answer_so = codes.walk-answers

pub codes_tell_walks : CodesTellWalks
unfolding CodesTellWalks
codes_tell_walks a b = codes.codes_tell a.number b.number a.steps b.steps a.way b.way
