-- A key's lists: their lengths, that they are lists of states, and that the engine accepts them.
use mathlib.Core.Path.{◌≡◌, sym, ap, ◌∙◌}
use mathlib.Core.Bool.{true}
use mathlib.Core.List.{List, ◌++◌}
use Prim.Native.Nat.{ℕ, zero, suc, ◌+◌, ◌*◌, ◌≤◌, ◌<◌}
use native.Mathlib.Omega.{arith}
use native.Mathlib.Numerals.{add-one}
use lib.ListN.{length, take}
use lib.Seq.{take_at}
use Rattle.sbox.specs.Sbox.{sbox}
use Rattle.sbox.proofs.Laws.{sbox-small}
use Rattle.layers.specs.State.{State, IsState, built}
use Rattle.rounds.specs.Rounds.{enciphered, AllStates}
use Rattle.rounds.proofs.Turned.{length-listed, turned-length, turned_states}
use Rattle.block_bytes.specs.Blocks.{list_states, list_bytes}
use Rattle.basics.specs.Bytes.{AreBytes}
use Rattle.block_bytes.proofs.RoundTrip.{length-bytes, list_bytes_lem, listed_states}
use Rattle.stages.specs.Columns.{cell, IsStage}
use Rattle.sizes.specs.Sizes.{key_length, t_of, rounds_allowed}
use Rattle.stages.specs.Stages.{by_row, subkey_of}
use Rattle.stages.proofs.Columns.{as_stage, stage_byte}
use Rattle.stages.proofs.Stages.{stage-stage}
use Rattle.key_lists.specs.declared.Direction.{Direction}
use Rattle.key_lists.specs.declared.Direction.TheVariants.{Enciphering, Deciphering}
use Rattle.key_lists.specs.KeyLists.{subkey, subkeys, list_for}
use Rattle.key_lists.specs.ForProver.{Fits}
use Rattle.sizes.proofs.Keys.{a_key}
use Rattle.sizes.proofs.Laws.{limits}

-- ---- what allowed settings say
pub record Allowed (n rounds : ℕ) : Type 0 where
  pub least : 10 ≤ rounds
  pub most : rounds < n
  pub key : n ≤ 24

pub allowed : (n rounds : ℕ) → key_length n ≡ true → rounds_allowed n rounds ≡ true → Allowed n rounds
allowed n rounds h e =
    let k = a_key n h in
    let l = limits n rounds e in
    record { least = omega (arith, k.sized.least); most = omega (arith, k.is, k.sized.least); key = k.most }

pub fitting : (n rounds room : ℕ) → key_length n ≡ true → rounds_allowed n rounds ≡ true → 12 * (rounds + 1) ≤ room → Fits n rounds room
fitting n rounds room h e f = let a = allowed n rounds h e in record { key = h; some = omega arith; most = a.most; fits = f }

-- ---- lengths
length-subkeys : (key : List ℕ) (R : ℕ) → length (subkeys key R) ≡ suc R
unfolding subkeys
length-subkeys key R = length-listed (suc R) (subkey key)

pub length_for : (d : Direction) (key : List ℕ) (R : ℕ) → length (list_for d key R) ≡ suc R
unfolding list_for
length_for Enciphering key R = length-subkeys key R
length_for Deciphering key R = turned-length (subkeys key R) R (length-subkeys key R)

pub length-prepared : (d : Direction) (key : List ℕ) (R : ℕ) → length (list_bytes (list_for d key R)) ≡ 12 * (R + 1)
length-prepared d key R = length-bytes (list_for d key R) ∙ ap (λ (n : ℕ). 12 * n) (length_for d key R ∙ sym (add-one R))

-- ---- states
row_byte : (i a b c : ℕ) → a < 256 → b < 256 → c < 256 → by_row i a b c < 256
row_byte zero a b c ha hb hc = ha
row_byte (suc zero) a b c ha hb hc = hb
row_byte (suc (suc i)) a b c ha hb hc = hc

subkey_state : (n : ℕ) {k : List ℕ} → IsStage n k → IsState (subkey_of k)
subkey_state n {k} h = built (λ i j. by_row i (sbox (cell k 0 j)) (cell k 1 j) (cell k 2 j))
    (λ i j. row_byte i (sbox (cell k 0 j)) (cell k 1 j) (cell k 2 j) (sbox-small (cell k 0 j)) (stage_byte n h (1 + 3 * j)) (stage_byte n h (2 + 3 * j)))

module _ (key : List ℕ) (h : key_length (length key) ≡ true) (b : AreBytes key) where
  pub key-stage : IsStage (2 * t_of (length key)) key
  key-stage = as_stage (2 * t_of (length key)) key (omega (arith, (a_key (length key) h).is)) b

  states : (R : ℕ) → AllStates (subkeys key R)
  unfolding subkeys
  states R = listed_states 0 (suc R) (subkey key) (λ s. subkey_state (2 * t_of (length key)) (stage-stage (t_of (length key)) key-stage s))

  pub states_for : (d : Direction) (R : ℕ) → AllStates (list_for d key R)
  unfolding list_for
  states_for Enciphering R = states R
  states_for Deciphering R = (turned_states (subkeys key R) (states R)).1

  -- the list at the start of some bytes is read as the list
  pub read_list : (d : Direction) (R : ℕ) (rest : List ℕ) → list_states (take (12 * (R + 1)) (list_bytes (list_for d key R) ++ rest)) ≡ list_for d key R
  read_list d R rest =
      ap list_states (take_at (list_bytes (list_for d key R)) rest (12 * (R + 1)) (length-prepared d key R))
      ∙ list_bytes_lem (list_for d key R) (states_for d R)

  pub read_back : (d : Direction) (R : ℕ) (rest : List ℕ) (a : State)
      → enciphered (list_states (take (12 * (R + 1)) (list_bytes (list_for d key R) ++ rest))) a ≡ enciphered (list_for d key R) a
  read_back d R rest a = ap (λ (l : List State). enciphered l a) (read_list d R rest)
