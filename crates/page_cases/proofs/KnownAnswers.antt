-- The known answers: each is computed from the definitions.
use mathlib.Core.Path.{refl}
use Rattle.basics.specs.Cases.{Hold}
use Rattle.byte_slices.proofs.Cases.{holds}
use Rattle.refusal.specs.Tries.{first}
use Rattle.field.specs.Field.{times, product, reduced}
use Rattle.sbox.specs.Sbox.{sbox, table_p, table_q}
use Rattle.rounds.specs.Rounds.{round, last_round, rounds, enciphered, listed_from}
use Rattle.stages.specs.Columns.{columns, plus, column_rule}
use Rattle.stages.specs.Stages.{moved, linear_step, constant, stage}
use Rattle.key_lists.specs.KeyLists.{subkeys, list_for}
use Rattle.key_pairs.specs.KeyPairs.{are_pair}
use Rattle.size_blocks.specs.SizeBlocks.{is_size_block}
use Rattle.block_bytes.specs.Blocks.{list_states, list_bytes}
use Rattle.chaining.specs.Chaining.{chained, unchained, last_of, chained_bytes, unchained_bytes, last_chained}
use Rattle.byte_slices.specs.Slices.{all_zero, same_bytes}
use Rattle.pages.specs.Pages.{stored, check_over, page_of, page_form, payload_in, check_agrees, unused_zero}
use Rattle.page_cases.specs.KnownAnswers.{mixed, unmixed, payload_for, page_with, ends, found_in, altered, sealed_over, padded}
use Rattle.page_cases.specs.KnownAnswers.{known_answers, altered_answers, padded_answers, order_answers, zero_answers, chain_answers}

pub known_answers_lem : Hold known_answers
unfolding known_answers mixed payload_for page_with ends listed_from list_states list_bytes chained last_of chained_bytes last_chained stored
    check_over page_of same_bytes
known_answers_lem = holds known_answers refl

pub altered-answers : Hold altered_answers
unfolding altered_answers altered mixed unmixed payload_for page_with found_in sealed_over listed_from list_states list_bytes
    chained unchained last_of chained_bytes unchained_bytes last_chained
    all_zero same_bytes stored check_over page_of page_form payload_in check_agrees unused_zero first
altered-answers = holds altered_answers refl

pub padded-answers : Hold padded_answers
unfolding padded_answers padded mixed unmixed payload_for page_with found_in sealed_over listed_from list_states list_bytes
    chained unchained last_of chained_bytes unchained_bytes last_chained
    all_zero same_bytes stored check_over page_of page_form payload_in check_agrees unused_zero first
padded-answers = holds padded_answers refl

pub order_answers_lem : Hold order_answers
unfolding order_answers are_pair is_size_block same_bytes all_zero page_form first
order_answers_lem = holds order_answers refl

pub zero_answers_lem : Hold zero_answers
unfolding zero_answers are_pair is_size_block mixed unmixed payload_for page_with found_in listed_from list_states list_bytes
    chained unchained last_of chained_bytes unchained_bytes last_chained
    all_zero same_bytes stored check_over page_of page_form payload_in check_agrees unused_zero first
zero_answers_lem = holds zero_answers refl

pub chain_answers_lem : Hold chain_answers
unfolding chain_answers listed_from list_states list_bytes chained chained_bytes subkeys list_for enciphered rounds round last_round
    sbox table_p table_q times product reduced columns plus column_rule moved linear_step constant stage same_bytes
chain_answers_lem = holds chain_answers refl
