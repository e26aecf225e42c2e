-- A term of each type of specs/Claims.antt.
use mathlib.Core.Path.{◌≡◌, refl, ap, ap₂, ◌∙◌, subst, sym}
use mathlib.Core.Bool.{true}
use mathlib.Core.List.{List, ◌++◌}
use Prim.Native.Nat.{ℕ, ◌≤◌}
use native.Mathlib.Omega.{arith}
use lib.ListN.{length, take, drop}
use lib.Dec.{lit<}
use borrow.Author.Tests.{eqb-true, eq-eqb, le-leb}
use Rattle.refusal.proofs.Tries.{none-given, none-holds}
use Rattle.refusal.proofs.Answers.{put, starts}
use Rattle.layers.specs.State.{State}
use Rattle.rounds.specs.Rounds.{turned, enciphered}
use Rattle.rounds.proofs.Turned.{turned_states}
use Rattle.rounds.proofs.Restored.{restored, enciphered_state}
use Rattle.block_bytes.specs.Blocks.{state_of, bytes_of, list_states}
use Rattle.basics.specs.Bytes.{AreBytes}
use Rattle.block_bytes.proofs.Lists.{length_states}
use Rattle.block_bytes.proofs.RoundTrip.{state_bytes, bytes_state, length-bytes, list_bytes_lem, list_states_lem, block_state}
use Rattle.list_rounds.specs.ListRounds.{list_length}
use Rattle.engine.specs.Engine.{engine_tries, engine_block, engine_number, engine_output}
use Rattle.engine.specs.Claims.{turned_bytes, Restored, EngineRestores}
use Rattle.list_rounds.proofs.Lists.{whole}

-- a turned list is as long as the list
turned-length : (list : List ℕ) → AreBytes list → list_length (length list) ≡ true → length (turned_bytes list) ≡ length list
turned-length list h e =
    let t = (turned_states (list_states list) (list_states_lem list h)).0 in
    omega (arith, length-bytes (turned (list_states list)), t, length_states list, (whole (length list) e).twelves)

module _ (list block : List ℕ) (hl : AreBytes list) (hb : AreBytes block) (e : list_length (length list) ≡ true) (eb : length block ≡ 12) where
  block_back : engine_block (turned_bytes list) (engine_block list block) ≡ block
  unfolding engine_block
  block_back =
      let ks = list_states list in
      let hs = list_states_lem list hl in
      let a = block_state block hb in
      let r = turned_states ks hs in
      ap₂ (λ (l : List State) (x : State). bytes_of (enciphered l x)) (list_bytes_lem (turned ks) r.1) (state_bytes (enciphered_state ks (state_of block) hs a))
      ∙ ap bytes_of (restored ks (state_of block) (omega (arith, length_states list, (whole (length list) e).least)) hs a)
      ∙ bytes_state block eb

  given-twelve : length (engine_block list block) ≡ 12
  unfolding engine_block
  given-twelve = refl

  accepted : (again : List ℕ) → 12 ≤ length again → engine_number (turned_bytes list) (engine_block list block) again ≡ 0
  accepted again l =
      none-given (engine_tries (turned_bytes list) (engine_block list block) again)
      (ap list_length (turned-length list hl e) ∙ e, (eq-eqb (length (engine_block list block)) 12 given-twelve, (le-leb 12 (length again) l, tt)))

  again_written : (again : List ℕ) → 12 ≤ length again → engine_output (turned_bytes list) (engine_block list block) again ≡ block ++ drop 12 again
  again_written again l =
      let g = engine_block list block in
      sym (put (engine_number (turned_bytes list) g again) (engine_block (turned_bytes list) g) again (accepted again l))
      ∙ ap (λ (b : List ℕ). b ++ drop (length b) again) block_back
      ∙ ap (λ (n : ℕ). block ++ drop n again) eb

-- the twelve bytes that a run wrote
run_written : (list block out : List ℕ) → engine_number list block out ≡ 0 → take 12 (engine_output list block out) ≡ engine_block list block
unfolding engine_block
run_written list block out e = (starts (engine_number list block out) (engine_block list block) out e).1

pub engine_restores : EngineRestores
unfolding EngineRestores
engine_restores list block out again hl hb e l =
    let p = none-holds (engine_tries list block out) (lit< tt, (lit< tt, (lit< tt, tt))) e in
    let eb = eqb-true (length block) 12 p.1.0 in
    subst (λ (g : List ℕ). Restored list g again block) (sym (run_written list block out e))
    record { accepted = accepted list block hl hb p.0 eb again l; block_back = again_written list block hl hb p.0 eb again l }
