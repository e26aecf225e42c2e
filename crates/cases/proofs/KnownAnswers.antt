-- The known answers hold: those of each crate, and the last stages, closing sums and order lines, which are computed here.
use mathlib.Core.Path.{◌≡◌, refl, ap}
use mathlib.Core.List.{List, [], ◌∷◌, ◌++◌}
use Prim.Native.Nat.{ℕ}
use lib.Dec.{eqb}
use lib.ListN.{length}
use Rattle.basics.specs.Cases.{Hold, threes, joined}
use Rattle.basics.proofs.Cases.{◌&◌}
use Rattle.field.specs.Field.{times, product, reduced}
use Rattle.sbox.specs.Sbox.{sbox, table_p, table_q}
use Rattle.rounds.specs.Rounds.{round, last_round, rounds, enciphered, listed_from, turned}
use Rattle.refusal.specs.Tries.{first, answered}
use Rattle.sizes.proofs.KnownAnswers as S
use Rattle.block_bytes.proofs.KnownAnswers as B
use Rattle.stages.specs.Columns.{columns, plus, padded, column_rule}
use Rattle.stages.specs.Stages.{moved, linear_step, constant, stage, zeros, closing_sum, step_constant, subkey_of}
use Rattle.stages.specs.KnownAnswers.{key_of12}
use Rattle.stages.proofs.KnownAnswers as K
use Rattle.key_lists.specs.KeyLists.{subkeys, list_for}
use Rattle.cipher.specs.Cipher.{cipher_block}
use Rattle.key_lists.proofs.KnownAnswers as L
use Rattle.holder.specs.Holder.{whole, blank}
use Rattle.holder_walk.proofs.KnownAnswers as H
use Rattle.holder_bytes.specs.HolderBytes.{holder_of, holder_bytes}
use Rattle.holder_bytes.proofs.KnownAnswers as HB
use Rattle.holder_walk_call.specs.WalkCall.{walk_call_code}
use Rattle.holder_calls.proofs.KnownAnswers as HC
use Rattle.holder_walk_call.proofs.KnownAnswers as HW
use Rattle.numbers.proofs.KnownAnswers as N
use Rattle.size_blocks.proofs.KnownAnswers as SB
use Rattle.rights.proofs.KnownAnswers as RI
use Rattle.roll.proofs.KnownAnswers as R
use Rattle.roll_changes.proofs.KnownAnswers as RC
use Rattle.roll_bytes.proofs.KnownAnswers as RB
use Rattle.grant.proofs.KnownAnswers as G
use Rattle.judging.proofs.KnownAnswers as J
use Rattle.issuing.proofs.KnownAnswers as I
use Rattle.checking.proofs.KnownAnswers as C
use Rattle.queue_parts.proofs.KnownAnswers as QP
use Rattle.key_pairs.proofs.KnownAnswers as KP
use Rattle.pages.proofs.KnownAnswers as P
use Rattle.page_cases.proofs.KnownAnswers as PC
use Rattle.roll.specs.declared.Roll.{Roll}
use Rattle.roll.specs.Roll.{count_of, figure_of, entry_of, in_standing}
use Rattle.size_blocks.specs.SizeBlocks.{is_size_block}
use Rattle.rights.specs.Rights.{covers, highest, within_highest}
use Rattle.grant.specs.Grants.{contractor_in, count_in, size_block_in, is_marked, is_grant}
use Rattle.judging.specs.Judging.{input_tries, plain_tries}
use Rattle.roll_bytes.specs.RollBytes.{counts_of, roll_of}
use Rattle.checking.specs.Checking.{opened_grant}
use Rattle.check_call.specs.CheckCall.{call_code}
use Rattle.queue.specs.Queue.{queue_answers}
use Rattle.cases.specs.KnownAnswers.{overwriting_of1, reading_of1, overwriting_of2, earlier_of3, overwriting_of3}
use Rattle.cases.specs.KnownAnswers.{known_answers, pile_answers, order_answers, all_known_answers, KnownAnswersHold}

-- a holder's bytes, from its stage
abbrev lent : ℕ → ℕ → List ℕ → List ℕ
lent n s k = holder_bytes record { length = n; number = s; bytes = padded k }

-- a stage is computed once, and its subkey and its holder's bytes from what it is
of_stage : {R : Type 0} (n s : ℕ) {k e : List ℕ} → k ≡ e → R
    → (k ≡ e) × ((joined (subkey_of k) ≡ joined (subkey_of e)) × ((lent n s k ≡ lent n s e) × R))
of_stage n s p rest = (p, (ap (λ (x : List ℕ). joined (subkey_of x)) p, (ap (lent n s) p, rest)))

-- of a closing sum, as such and as the constant of the last step
of_sum : {R : Type 0} {k e : List ℕ} → k ≡ e → R → (k ≡ e) × ((k ≡ e) × R)
of_sum p rest = (p, (p, rest))

last_stages : Hold known_answers
unfolding known_answers sbox table_p table_q times product reduced columns plus padded column_rule moved linear_step constant stage zeros
    closing_sum step_constant
    holder_bytes
last_stages = of_stage 12 11 refl (of_stage 18 17 refl (of_stage 24 23 refl (of_sum refl (of_sum refl (of_sum refl tt)))))

-- each grant is deciphered once
opened_a : opened_grant key_of12 10 overwriting_of1 ≡ threes (0x000100 ∷ 0x010000 ∷ 0x012C02 ∷ 0x475244 ∷ [])
unfolding opened_grant cipher_block list_for subkeys turned listed_from enciphered rounds round last_round sbox table_p table_q times product
    reduced columns plus
    column_rule moved linear_step constant stage
opened_a = refl

opened_b : opened_grant key_of12 10 reading_of1 ≡ threes (0x000100 ∷ 0x010000 ∷ 0x012C01 ∷ 0x475244 ∷ [])
unfolding opened_grant cipher_block list_for subkeys turned listed_from enciphered rounds round last_round sbox table_p table_q times product
    reduced columns plus
    column_rule moved linear_step constant stage
opened_b = refl

opened_c : opened_grant key_of12 10 overwriting_of2 ≡ threes (0x000200 ∷ 0x020000 ∷ 0x012C02 ∷ 0x475244 ∷ [])
unfolding opened_grant cipher_block list_for subkeys turned listed_from enciphered rounds round last_round sbox table_p table_q times product
    reduced columns plus
    column_rule moved linear_step constant stage
opened_c = refl

opened_d : opened_grant key_of12 10 earlier_of3 ≡ threes (0x000300 ∷ 0x010000 ∷ 0x012C02 ∷ 0x475244 ∷ [])
unfolding opened_grant cipher_block list_for subkeys turned listed_from enciphered rounds round last_round sbox table_p table_q times product
    reduced columns plus
    column_rule moved linear_step constant stage
opened_d = refl

opened_e : opened_grant key_of12 10 overwriting_of3 ≡ threes (0x000300 ∷ 0x030000 ∷ 0x012C02 ∷ 0x475244 ∷ [])
unfolding opened_grant cipher_block list_for subkeys turned listed_from enciphered rounds round last_round sbox table_p table_q times product
    reduced columns plus
    column_rule moved linear_step constant stage
opened_e = refl

-- what its check says, from its plain bytes
abbrev said : ℕ → List ℕ → List ℕ → ℕ
said r g p =
    let roll : Roll = record { counts = 1 ∷ 2 ∷ 3 ∷ []; rights = 2 ∷ 1 ∷ 255 ∷ [] } in
    first (input_tries 12 10 (eqb (length g) 12) 300 r ++ plain_tries p (entry_of roll (contractor_in p)) 300 r)

piles : Hold pile_answers
unfolding pile_answers queue_answers listed_from first is_size_block highest within_highest count_of figure_of in_standing covers contractor_in
    count_in size_block_in
    is_marked is_grant
piles =
    (λ j.
    said 2 overwriting_of1 (opened_a j) ∷ said 2 reading_of1 (opened_b j) ∷ said 2 overwriting_of2 (opened_c j) ∷ said 2 earlier_of3 (opened_d j)
    ∷ said 2 overwriting_of3 (opened_e j) ∷ [])
    & (λ j.
    said 1 overwriting_of1 (opened_a j) ∷ said 1 reading_of1 (opened_b j) ∷ said 1 overwriting_of2 (opened_c j) ∷ said 1 earlier_of3 (opened_d j)
    ∷ said 1 overwriting_of3 (opened_e j) ∷ [])
    & tt

orders : Hold order_answers
unfolding order_answers first is_size_block answered whole blank holder_of walk_call_code roll_of counts_of count_of in_standing call_code
orders =
    refl & refl & refl & refl & refl & refl & refl & refl & refl & refl & refl & refl &
    refl & refl & refl & refl & refl & refl & refl & refl & refl & refl & refl & refl & refl & refl & refl & refl & refl & tt

pub known_answers_hold : KnownAnswersHold
unfolding KnownAnswersHold all_known_answers
known_answers_hold =
    S.known_answers_lem & B.known_answers_lem & K.known_answers_lem & L.known_answers_lem
    & H.known_answers_lem & HB.known_answers_lem & HC.known_answers_lem & HW.known_answers_lem
    & N.known_answers_lem & SB.known_answers_lem & RI.known_answers_lem & R.known_answers_lem & RC.known_answers_lem & RB.known_answers_lem
    & G.known_answers_lem & J.known_answers_lem & J.zero_answers_lem & I.known_answers_lem & I.zero_answers_lem & C.known_answers_lem
    & QP.known_answers_lem & QP.zero_answers_lem & KP.known_answers_lem & P.known_answers_lem
    & PC.known_answers_lem & PC.altered-answers & PC.padded-answers & PC.order_answers_lem & PC.zero_answers_lem & PC.chain_answers_lem
    & last_stages & piles & orders & tt
