-- Over a key's own list the answers are the numbers of the single checks.
use mathlib.Core.Path.{◌≡◌, sym, ap, ◌∙◌, subst}
use mathlib.Core.Bool.{true}
use mathlib.Core.List.{List, [], ◌++◌}
use Prim.Native.Nat.{ℕ, ◌+◌, ◌*◌, ◌<◌}
use lib.Dec.{eqb}
use lib.ListN.{length, take, drop}
use lib.Seq.{ext_get_or, take_at}
use borrow.Author.Tests.{eq-eqb}
use Rattle.refusal.proofs.Tries.{first_then}
use Rattle.rounds.specs.Rounds.{listed_from}
use Rattle.rounds.proofs.Turned.{length-listed, get_or-listed}
use Rattle.sizes.specs.Sizes.{key_length, rounds_allowed}
use Rattle.block_bytes.specs.Blocks.{list_bytes}
use Rattle.key_lists.specs.declared.Direction.TheVariants.{Deciphering}
use Rattle.key_lists.specs.KeyLists.{list_for, prepared}
use Rattle.key_lists.specs.Claims.{Settings}
use Rattle.key_lists.proofs.Lists.{length-prepared}
use Rattle.cipher.specs.Claims.{EngineRunsPrepared}
use Rattle.cipher.proofs.Claims.{engine_runs_prepared}
use Rattle.roll.specs.declared.Roll.{Roll}
use Rattle.roll.specs.Roll.{entry_of}
use Rattle.size_blocks.specs.SizeBlocks.{is_size_block}
use Rattle.rights.specs.Rights.{is_right}
use Rattle.grant.specs.Grants.{contractor_in}
use Rattle.judging.specs.Judging.{input_tries, plain_tries, judged_number}
use Rattle.judging.proofs.Passed.{input_passes}
use Rattle.checking.specs.Checking.{opened_grant, entry_now, check_number}
use Rattle.queue_parts.specs.QueueParts.{grants_in, grant_at}
use Rattle.queue_parts.specs.ForProver.{number_over}
use Rattle.queue_parts.proofs.Answers.{grant-length}
use Rattle.queue.specs.Queue.{queue_answers}

-- lists that agree at each place
agree : (n : ℕ) (f g : ℕ → ℕ) → ((i : ℕ) → i < n → f i ≡ g i) → listed_from 0 n f ≡ listed_from 0 n g
agree n f g h = ext_get_or 0 (listed_from 0 n f) (listed_from 0 n g) (length-listed n f ∙ sym (length-listed n g))
    (λ i l. let b = subst (λ (m : ℕ). i < m) (length-listed n f) l in get_or-listed 0 n f i b ∙ h i b ∙ sym (get_or-listed 0 n g i b))

-- a byte for each grant
pub length-answers : (key : List ℕ) (rounds : ℕ) (roll : Roll) (grants : List ℕ) (block right : ℕ)
    → length (queue_answers key rounds roll grants block right) ≡ grants_in (length grants)
unfolding queue_answers
length-answers key rounds roll grants block right = length-listed (grants_in (length grants)) _

-- where a key, a round count, a size block, a right and a grant's length were tried, a check of the grant gives what is tried of its plain bytes
pub tried_once : (key : List ℕ) (rounds : ℕ) (roll : Roll) (grant : List ℕ) (block right : ℕ)
    → key_length (length key) ≡ true → rounds_allowed (length key) rounds ≡ true → is_right right ≡ true → is_size_block block ≡ true → length grant ≡ 12
    → check_number key rounds roll grant block right ≡ judged_number (opened_grant key rounds grant) (entry_now key rounds roll grant) block right
tried_once key rounds roll grant block right k r asked some twelve =
    first_then (input_tries (length key) rounds (eqb (length grant) 12) block right)
    (plain_tries (opened_grant key rounds grant) (entry_now key rounds roll grant) block right)
    (input_passes (length key) rounds (eqb (length grant) 12) block right []
    record { key-length = k; round-count = r; long = eq-eqb (length grant) 12 twelve; asked = asked; some_block = some } tt)

module _ (key : List ℕ) (rounds : ℕ) (s : Settings key rounds) (roll : Roll) (block right : ℕ)
    (asked : is_right right ≡ true) (some : is_size_block block ≡ true) where
  -- a grant opened over the key's list is judged as if it were checked alone
  alone : (grant : List ℕ) → length grant ≡ 12
      → number_over (prepared Deciphering key rounds) roll block right grant ≡ check_number key rounds roll grant block right
  unfolding number_over opened_grant EngineRunsPrepared
  alone grant twelve =
      ap (λ (p : List ℕ). judged_number p (entry_of roll (contractor_in p)) block right) (engine_runs_prepared Deciphering key rounds grant s)
      ∙ sym (tried_once key rounds roll grant block right s.length_allowed s.rounds_are_allowed asked some twelve)

  pub answered_alone : (grants list : List ℕ) → list ≡ prepared Deciphering key rounds
      → listed_from 0 (grants_in (length grants)) (λ i. number_over list roll block right (grant_at grants i))
      ≡ queue_answers key rounds roll grants block right
  unfolding queue_answers
  answered_alone grants list e =
      ap (λ (l : List ℕ). listed_from 0 (grants_in (length grants)) (λ i. number_over l roll block right (grant_at grants i))) e
      ∙ agree (grants_in (length grants)) _ _ (λ i h. alone (grant_at grants i) (grant-length grants i h))

  -- and what is written over the list at the front of some bytes is the answers
  pub all_answered : (grants out list rest after : List ℕ) → list ≡ list_bytes (list_for Deciphering key rounds) ++ rest
      → after ≡ listed_from 0 (grants_in (length grants)) (λ i. number_over (take (12 * (rounds + 1)) list) roll block right (grant_at grants i))
      ++ drop (grants_in (length grants)) out
      → after ≡ queue_answers key rounds roll grants block right ++ drop (length (queue_answers key rounds roll grants block right)) out
  unfolding prepared
  all_answered grants out list rest after e ea =
      let n = grants_in (length grants) in
      let m = 12 * (rounds + 1) in
      let front = ap (take m) e ∙ take_at (list_bytes (list_for Deciphering key rounds)) rest m (length-prepared Deciphering key rounds) in
      ea ∙ ap (λ (l : List ℕ). l ++ drop n out) (answered_alone grants (take m list) front)
      ∙ ap (λ (k : ℕ). queue_answers key rounds roll grants block right ++ drop k out) (sym (length-answers key rounds roll grants block right))
