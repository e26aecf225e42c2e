-- A term of each type of specs/Claims.antt.
use mathlib.Core.Path.{◌≡◌, refl, sym, ap, ap₂, ◌∙◌}
use mathlib.Core.List.{List}
use Prim.Native.Nat.{ℕ, ◌≤◌}
use native.Mathlib.Omega.{arith}
use lib.ListN.{length}
use Rattle.layers.specs.State.{State}
use Rattle.rounds.specs.Rounds.{enciphered}
use Rattle.rounds.specs.Claims.{RestoredByList}
use Rattle.rounds.proofs.Restored.{restored, enciphered_state}
use Rattle.rounds.proofs.Claims.{restored_by_list}
use Rattle.block_bytes.specs.Blocks.{state_of, bytes_of}
use Rattle.refusal.specs.Tries.{written}
use Rattle.refusal.proofs.Tries.{first_passes}
use Rattle.refusal.proofs.Ladder.{ordered}
use Rattle.list_rounds.specs.ListRounds.{list_length}
use Rattle.list_rounds.proofs.Lists.{accepted}
use Rattle.engine.specs.Engine.{engine_tries, engine_block, engine_number}
use Rattle.block_bytes.proofs.RoundTrip.{state_bytes, bytes_state, list_bytes_lem, block_state}
use Rattle.key_lists.specs.declared.Direction.{Direction}
use Rattle.key_lists.specs.declared.Direction.TheVariants.{Enciphering, Deciphering}
use Rattle.key_lists.specs.KeyLists.{list_for, prepared}
use Rattle.key_lists.specs.Claims.{Settings}
use Rattle.cipher.specs.Cipher.{cipher_tries, cipher_block, cipher_number}
use Rattle.cipher.specs.Claims.{IsBlock, DeciphersWhatWasEnciphered, EnciphersWhatWasDeciphered, EngineRunsPrepared}
use Rattle.cipher.specs.Claims.{EngineCallRunsPrepared, BlockCallsInOrder}
use Rattle.key_lists.proofs.Lists.{allowed, length_for, length-prepared, states_for}

module _ (key : List ℕ) (rounds : ℕ) (s : Settings key rounds) where
  two : (d : Direction) → 2 ≤ length (list_for d key rounds)
  two d = let w = allowed (length key) rounds s.length_allowed s.rounds_are_allowed in omega (arith, length_for d key rounds)

  -- the engine over the list for e, on what it gives over the list for d, where the lists undo each other
  there_and_back : (d e : Direction) (block : List ℕ) → IsBlock block
      → enciphered (list_for e key rounds) (enciphered (list_for d key rounds) (state_of block)) ≡ state_of block
      → cipher_block e key rounds (cipher_block d key rounds block) ≡ block
  unfolding cipher_block
  there_and_back d e block b h =
      ap (λ (x : State). bytes_of (enciphered (list_for e key rounds) x))
      (state_bytes (enciphered_state (list_for d key rounds) (state_of block) (states_for key s.length_allowed s.bytes d rounds)
      (block_state block b.bytes)))
      ∙ ap bytes_of h ∙ bytes_state block b.twelve

pub deciphers_what_was_enciphered : DeciphersWhatWasEnciphered
unfolding DeciphersWhatWasEnciphered list_for
deciphers_what_was_enciphered key rounds block s b =
    there_and_back key rounds s Enciphering Deciphering block b
    (restored (list_for Enciphering key rounds) (state_of block) (two key rounds s Enciphering)
    (states_for key s.length_allowed s.bytes Enciphering rounds) (block_state block b.bytes))

pub enciphers_what_was_deciphered : EnciphersWhatWasDeciphered
unfolding EnciphersWhatWasDeciphered list_for RestoredByList
enciphers_what_was_deciphered key rounds block s b =
    there_and_back key rounds s Deciphering Enciphering block b
    (restored_by_list (list_for Enciphering key rounds) (state_of block) (two key rounds s Enciphering)
    (states_for key s.length_allowed s.bytes Enciphering rounds) (block_state block b.bytes))

pub engine_runs_prepared : EngineRunsPrepared
unfolding EngineRunsPrepared engine_block prepared cipher_block
engine_runs_prepared d key rounds block s =
    ap (λ (l : List State). bytes_of (enciphered l (state_of block)))
    (list_bytes_lem (list_for d key rounds) (states_for key s.length_allowed s.bytes d rounds))

-- a prepared list is one that the engine takes, so that both calls come to the block
pub engine_call_runs_prepared : EngineCallRunsPrepared
unfolding EngineCallRunsPrepared EngineRunsPrepared prepared
engine_call_runs_prepared d key rounds block out s =
    let w = allowed (length key) rounds s.length_allowed s.rounds_are_allowed in
    let takes = ap list_length (length-prepared d key rounds) ∙ accepted rounds w.least (omega (arith, w.most, w.key)) in
    let number : engine_number (prepared d key rounds) block out ≡ cipher_number key rounds block out =
    first_passes _ _ takes ∙ sym (first_passes _ _ s.length_allowed ∙ first_passes _ _ s.rounds_are_allowed) in
    record { number = number; output = ap₂ (λ (n : ℕ) (b : List ℕ). written n b out) number (engine_runs_prepared d key rounds block s) }

-- ---- refusals
pub block_calls_in_order : BlockCallsInOrder
unfolding BlockCallsInOrder
block_calls_in_order key list rounds block out = (ordered (cipher_tries key rounds block out) refl, ordered (engine_tries list block out) refl)
