-- The known answers: beside document 01's thirteen cases, a second list of computed facts, which pins definitions that no case of document 01
-- pins. What is expected is what the independent program prints, line by line (`reference answers`); `tools/known-answers` compares the two.
-- Each crate has those of its definitions beside them; here stand those that take long to compute, the last stages with their subkeys and holders,
-- the closing sums and a queue of five grants, and the claim over them all. Where that program has no such call, document 01's order lines are taken
-- as they stand, as the requests amend them.
use Rattle.std.specs.Prelude.{List, [], ◌∷◌, ℕ, replicate}
use Rattle.basics.specs.Cases.{Case, ◌is◌, HoldAll, threes, joined}
use Rattle.sizes.specs.KnownAnswers as S
use Rattle.block_bytes.specs.KnownAnswers as B
use Rattle.engine.specs.Engine.{engine_number}
use Rattle.stages.specs.Stages.{stage, closing_sum, step_constant, subkey_of}
use Rattle.stages.specs.KnownAnswers.{key_of12, key_of18, key_of24}
use Rattle.stages.specs.KnownAnswers as K
use Rattle.lists.specs.Lists.{prepare_number}
use Rattle.key_lists.specs.KnownAnswers as L
use Rattle.cipher.specs.Cipher.{cipher_number}
use Rattle.holder.specs.Holder.{blank}
use Rattle.holder_from_key.specs.FromKey.{straight_number}
use Rattle.holder_walk.specs.Walk.{walk_number}
use Rattle.holder_walk.specs.KnownAnswers as H
use Rattle.holder_bytes.specs.KnownAnswers.{lent_of}
use Rattle.holder_bytes.specs.KnownAnswers as HB
use Rattle.holder_calls.specs.HolderCalls.{make_call_number}
use Rattle.holder_walk_call.specs.WalkCall.{walk_call_code}
use Rattle.holder_subkey_call.specs.SubkeyCall.{held_subkey_number}
use Rattle.roll_calls.specs.RollCalls.{empty_call_number, enter_call_number, withdraw_call_number, change_call_number}
use Rattle.issue_call.specs.IssueCall.{issue_call_number}
use Rattle.check_call.specs.CheckCall.{call_code}
use Rattle.queue_call.specs.QueueCall.{call_queue_number}
use Rattle.holder_calls.specs.KnownAnswers as HC
use Rattle.holder_walk_call.specs.KnownAnswers as HW
use Rattle.numbers.specs.KnownAnswers as N
use Rattle.size_blocks.specs.KnownAnswers as SB
use Rattle.rights.specs.KnownAnswers as RI
use Rattle.roll.specs.KnownAnswers as R
use Rattle.roll_changes.specs.KnownAnswers as RC
use Rattle.roll_bytes.specs.KnownAnswers as RB
use Rattle.grant.specs.KnownAnswers as G
use Rattle.judging.specs.KnownAnswers as J
use Rattle.issuing.specs.KnownAnswers as I
use Rattle.checking.specs.KnownAnswers as C
use Rattle.queue_parts.specs.KnownAnswers as QP
use Rattle.queue.specs.Queue.{queue_answers}
use Rattle.key_pairs.specs.KnownAnswers as KP
use Rattle.pages.specs.KnownAnswers as P
use Rattle.page_cases.specs.KnownAnswers as PC

-- the last stage of a key of each size, its subkey and the holder there, and the closing sums, also as the constants of the last steps
unfoldable pub known_answers : List Case
known_answers =
    -- stage 0f1e2d3c4b5a69788796a5b4 11
    (stage 2 key_of12 11 is threes (0x6BFC82 ∷ 0xF133A1 ∷ 0xB5136D ∷ 0x5E0B55 ∷ []))
    ∷ (joined (subkey_of (stage 2 key_of12 11)) is threes (0x2AFC82 ∷ 0xBD33A1 ∷ 0x90136D ∷ 0x6D0B55 ∷ []))
    -- lent 0f1e2d3c4b5a69788796a5b4 11
    ∷ (lent_of key_of12 11 is (0x0C ∷ 0x0B ∷ 0x6B ∷ 0xFC ∷ 0x82 ∷ 0xF1 ∷ 0x33 ∷ 0xA1 ∷ 0xB5 ∷ 0x13 ∷ 0x6D ∷ 0x5E ∷ 0x0B ∷ 0x55 ∷ 0x00 ∷ 0x00 ∷
    0x00 ∷ 0x00 ∷ 0x00 ∷ 0x00 ∷ 0x00 ∷ 0x00 ∷ 0x00 ∷ 0x00 ∷ 0x00 ∷ 0x00 ∷ []))
    -- stage 0f1e2d3c4b5a69788796a5b4c3d2e1f00112 17
    ∷ (stage 3 key_of18 17 is threes (0x6A594F ∷ 0x60D79F ∷ 0xFDAC4E ∷ 0x94B33D ∷ 0xABC92E ∷ 0xCD0930 ∷ []))
    ∷ (joined (subkey_of (stage 3 key_of18 17)) is threes (0xF6594F ∷ 0xB9D79F ∷ 0xCAAC4E ∷ 0xBEB33D ∷ []))
    -- lent 0f1e2d3c4b5a69788796a5b4c3d2e1f00112 17
    ∷ (lent_of key_of18 17 is (0x12 ∷ 0x11 ∷ 0x6A ∷ 0x59 ∷ 0x4F ∷ 0x60 ∷ 0xD7 ∷ 0x9F ∷ 0xFD ∷ 0xAC ∷ 0x4E ∷ 0x94 ∷ 0xB3 ∷ 0x3D ∷ 0xAB ∷ 0xC9 ∷
    0x2E ∷ 0xCD ∷ 0x09 ∷ 0x30 ∷ 0x00 ∷ 0x00 ∷ 0x00 ∷ 0x00 ∷ 0x00 ∷ 0x00 ∷ []))
    -- stage 0f1e2d3c4b5a69788796a5b4c3d2e1f00112233445566770 23
    ∷ (stage 4 key_of24 23 is threes (0xA717A0 ∷ 0xFD404D ∷ 0x316B54 ∷ 0x6B7C3A ∷ 0x4E8A2B ∷ 0xA3EA85 ∷ 0xF6A984 ∷ 0x3D79D3 ∷ []))
    ∷ (joined (subkey_of (stage 4 key_of24 23)) is threes (0x8217A0 ∷ 0xCA404D ∷ 0xC46B54 ∷ 0x2A7C3A ∷ []))
    -- lent 0f1e2d3c4b5a69788796a5b4c3d2e1f00112233445566770 23
    ∷ (lent_of key_of24 23 is (0x18 ∷ 0x17 ∷ 0xA7 ∷ 0x17 ∷ 0xA0 ∷ 0xFD ∷ 0x40 ∷ 0x4D ∷ 0x31 ∷ 0x6B ∷ 0x54 ∷ 0x6B ∷ 0x7C ∷ 0x3A ∷ 0x4E ∷ 0x8A ∷
    0x2B ∷ 0xA3 ∷ 0xEA ∷ 0x85 ∷ 0xF6 ∷ 0xA9 ∷ 0x84 ∷ 0x3D ∷ 0x79 ∷ 0xD3 ∷ []))
    -- closing 12
    ∷ (closing_sum 2 is threes (0x129B2E ∷ 0x3B5B64 ∷ 0x9EAE1B ∷ 0x0A310E ∷ []))
    -- constant 12 12
    ∷ (step_constant 2 12 is threes (0x129B2E ∷ 0x3B5B64 ∷ 0x9EAE1B ∷ 0x0A310E ∷ []))
    -- closing 18
    ∷ (closing_sum 3 is threes (0x1377E3 ∷ 0xAABF5A ∷ 0xD61138 ∷ 0xC08949 ∷ 0xFDAE13 ∷ 0x124E6B ∷ []))
    -- constant 18 18
    ∷ (step_constant 3 18 is threes (0x1377E3 ∷ 0xAABF5A ∷ 0xD61138 ∷ 0xC08949 ∷ 0xFDAE13 ∷ 0x124E6B ∷ []))
    -- closing 24
    ∷ (closing_sum 4 is threes (0xDE830C ∷ 0x372888 ∷ 0x1AD622 ∷ 0x3F464E ∷ 0x18ED16 ∷ 0x7CAD89 ∷ 0x9C8707 ∷ 0x980488 ∷ []))
    -- constant 24 24
    ∷ (step_constant 4 24 is threes (0xDE830C ∷ 0x372888 ∷ 0x1AD622 ∷ 0x3F464E ∷ 0x18ED16 ∷ 0x7CAD89 ∷ 0x9C8707 ∷ 0x980488 ∷ []))
    ∷ []

-- five grants for size block 300: two of contractor 1, to overwrite and to read, one of contractor 2 and two of contractor 3, all to overwrite
abbrev pub overwriting_of1 : List ℕ
overwriting_of1 = threes (0xB417AE ∷ 0x7E1AC7 ∷ 0x3FD1F5 ∷ 0x39778B ∷ [])

abbrev pub reading_of1 : List ℕ
reading_of1 = threes (0xA02BB5 ∷ 0x8A47F6 ∷ 0x6F97A1 ∷ 0x612E3D ∷ [])

abbrev pub overwriting_of2 : List ℕ
overwriting_of2 = threes (0xC7F8AD ∷ 0xDE77CD ∷ 0xB748D2 ∷ 0x10E78D ∷ [])

abbrev pub earlier_of3 : List ℕ
earlier_of3 = threes (0x2C100F ∷ 0x1A8C1A ∷ 0x855F58 ∷ 0x9773B9 ∷ [])

abbrev pub overwriting_of3 : List ℕ
overwriting_of3 = threes (0x527FA1 ∷ 0x3339DF ∷ 0xA7377A ∷ 0xFFD78E ∷ [])

abbrev pub pile : List ℕ
pile = joined (overwriting_of1 ∷ reading_of1 ∷ overwriting_of2 ∷ earlier_of3 ∷ overwriting_of3 ∷ [])

-- in one queue: the check of each, where contractors 1, 2 and 3 have their numbers as counts, and only contractor 1 may overwrite. Contractor 2 is not in
-- standing, and the first grant of contractor 3 is from an earlier one
unfoldable pub pile_answers : List Case
pile_answers =
    -- queue 0f1e2d3c4b5a69788796a5b4 10 1,2,3 2,1,255 \
    -- b417ae7e1ac73fd1f539778ba02bb58a47f66f97a1612e3dc7f8adde77cdb748d210e78d2c100f1a8c1a855f589773b9527fa13339dfa7377affd78e 300 2
    (queue_answers key_of12 10 record { counts = 1 ∷ 2 ∷ 3 ∷ []; rights = 2 ∷ 1 ∷ 255 ∷ [] } pile 300 2
    is (0 ∷ 10 ∷ 20 ∷ 23 ∷ 25 ∷ []))
    -- queue 0f1e2d3c4b5a69788796a5b4 10 1,2,3 2,1,255 \
    -- b417ae7e1ac73fd1f539778ba02bb58a47f66f97a1612e3dc7f8adde77cdb748d210e78d2c100f1a8c1a855f589773b9527fa13339dfa7377affd78e 300 1
    ∷ (queue_answers key_of12 10 record { counts = 1 ∷ 2 ∷ 3 ∷ []; rights = 2 ∷ 1 ∷ 255 ∷ [] } pile 300 1
    is (0 ∷ 0 ∷ 20 ∷ 23 ∷ 0 ∷ []))
    ∷ []

-- document 01's order lines of the other calls, and the header's of the C calls, where two neighbours hold together
unfoldable pub order_answers : List Case
order_answers =
    -- cipher 1, 2, 3, 4
    ((cipher_number (replicate 11 0) 12 (replicate 12 0) (replicate 12 0) ∷ []) is (1 ∷ []))
    ∷ ((cipher_number (replicate 12 0) 12 (replicate 11 0) (replicate 12 0) ∷ []) is (2 ∷ []))
    ∷ ((cipher_number (replicate 12 0) 10 (replicate 11 0) (replicate 11 0) ∷ []) is (3 ∷ []))
    -- prepared list 1, 2, 4, which has no block
    ∷ ((prepare_number (replicate 11 0) 12 (replicate 288 0) ∷ []) is (1 ∷ []))
    ∷ ((prepare_number (replicate 12 0) 12 (replicate 131 0) ∷ []) is (2 ∷ []))
    -- engine 5, 3, 4
    ∷ ((engine_number (replicate 131 0) (replicate 11 0) (replicate 12 0) ∷ []) is (5 ∷ []))
    ∷ ((engine_number (replicate 132 0) (replicate 11 0) (replicate 11 0) ∷ []) is (3 ∷ []))
    -- stage from key 1, 5
    ∷ ((straight_number (replicate 11 0) 24 ∷ []) is (1 ∷ []))
    -- holder 24, 5
    ∷ ((walk_number blank 24 ∷ []) is (24 ∷ []))
    -- lent holder: made 1, 4; walked 24, 5; its subkey 24, 4
    ∷ ((make_call_number (replicate 11 0) (replicate 25 0) ∷ []) is (1 ∷ []))
    ∷ ((walk_call_code (replicate 26 0) 24 ∷ []) is (24 ∷ []))
    ∷ ((held_subkey_number (replicate 26 0) (replicate 11 0) ∷ []) is (24 ∷ []))
    -- the empty roll 4, and none where there is just room enough
    ∷ ((empty_call_number (replicate 599 0) ∷ empty_call_number (replicate 600 0) ∷ []) is (4 ∷ 0 ∷ []))
    -- enter on a roll's bytes 3, 6, 7, 21, 22
    ∷ ((enter_call_number (replicate 599 0) 0 3 ∷ enter_call_number (replicate 600 0) 0 3 ∷ enter_call_number (replicate 600 1) 7 3 ∷ []) is (3 ∷ 6 ∷ 7 ∷ []))
    -- withdraw 3, 6, 20
    ∷ ((withdraw_call_number (replicate 599 0) 0 ∷ withdraw_call_number (replicate 600 0) 0 ∷ []) is (3 ∷ 6 ∷ []))
    -- change of right 3, 6, 7, 20
    ∷ ((change_call_number (replicate 599 0) 0 3 ∷ change_call_number (replicate 600 0) 0 3 ∷ change_call_number (replicate 600 0) 7 3
    ∷ []) is (3 ∷ 6 ∷ 7 ∷ []))
    -- issue 1, 2, 3, 4, 6, 7, 14, 20, 25, of which 2, 3, 4, 7 and 14 with their neighbours
    ∷ ((issue_call_number (replicate 12 0) 12 (replicate 599 0) 0 300 3 (replicate 11 0) ∷ []) is (2 ∷ []))
    ∷ ((issue_call_number (replicate 12 0) 10 (replicate 599 0) 0 300 3 (replicate 11 0) ∷ []) is (3 ∷ []))
    ∷ ((issue_call_number (replicate 12 0) 10 (replicate 600 0) 0 300 3 (replicate 11 0) ∷ []) is (4 ∷ []))
    ∷ ((issue_call_number (replicate 12 0) 10 (replicate 600 0) 7 0 3 (replicate 12 0) ∷ []) is (7 ∷ []))
    ∷ ((issue_call_number (replicate 12 0) 10 (replicate 600 0) 7 0 2 (replicate 12 0) ∷ []) is (14 ∷ []))
    -- check 1, 2, 3, 7, 14 and so on, with 3 for the roll
    ∷ ((call_code (replicate 12 0) 12 (replicate 599 0) (replicate 12 0) 300 3 ∷ []) is (2 ∷ []))
    ∷ ((call_code (replicate 12 0) 10 (replicate 599 0) (replicate 12 0) 300 3 ∷ []) is (3 ∷ []))
    ∷ ((call_code (replicate 12 0) 10 (replicate 600 0) (replicate 12 0) 0 3 ∷ []) is (7 ∷ []))
    ∷ ((call_code (replicate 12 0) 10 (replicate 600 0) (replicate 12 0) 0 2 ∷ []) is (14 ∷ []))
    -- queue 1, 2, 3, 4, 7, 14, with 3 for the roll
    ∷ ((call_queue_number (replicate 12 0) 12 (replicate 599 0) (replicate 12 0) 0 3 [] ∷ []) is (2 ∷ []))
    ∷ ((call_queue_number (replicate 12 0) 10 (replicate 599 0) (replicate 12 0) 0 3 [] ∷ []) is (3 ∷ []))
    ∷ ((call_queue_number (replicate 12 0) 10 (replicate 600 0) (replicate 12 0) 0 3 (0 ∷ []) ∷ []) is (7 ∷ []))
    -- and 14 alone
    ∷ ((call_queue_number (replicate 12 0) 10 (replicate 600 0) (replicate 12 0) 0 2 (0 ∷ []) ∷ []) is (14 ∷ []))
    ∷ []

-- all of them
unfoldable pub all_known_answers : List (List Case)
all_known_answers =
    S.known_answers
    ∷ B.known_answers
    ∷ K.known_answers
    ∷ L.known_answers
    ∷ H.known_answers
    ∷ HB.known_answers
    ∷ HC.known_answers
    ∷ HW.known_answers
    ∷ N.known_answers
    ∷ SB.known_answers
    ∷ RI.known_answers
    ∷ R.known_answers
    ∷ RC.known_answers
    ∷ RB.known_answers
    ∷ G.known_answers
    ∷ J.known_answers
    ∷ J.zero_answers
    ∷ I.known_answers
    ∷ I.zero_answers
    ∷ C.known_answers
    ∷ QP.known_answers
    ∷ QP.zero_answers
    ∷ KP.known_answers
    ∷ P.known_answers
    ∷ PC.known_answers
    ∷ PC.altered_answers
    ∷ PC.padded_answers
    ∷ PC.order_answers
    ∷ PC.zero_answers
    ∷ PC.chain_answers
    ∷ known_answers
    ∷ pile_answers
    ∷ order_answers
    ∷ []

-- the claim. The term of this type stands in proofs/KnownAnswers.antt
unfoldable pub KnownAnswersHold : Type 0
KnownAnswersHold = HoldAll all_known_answers
