-- A page that may be sealed: what was tried of it, and what the code that makes it is handed.
use mathlib.Core.Path.{◌≡◌, refl}
use mathlib.Core.Bool.{Bool, true, false, cond}
use mathlib.Core.List.{List}
use Prim.Native.Nat.{ℕ, ◌≤◌}
use lib.Dec.{leb}
use lib.ListN.{length, take}
use lib.Seq.{length-take-le}
use borrow.Author.Tests.{leb-true}
use Rattle.basics.proofs.Tests.{and_first, and_second}
use native.Mathlib.Omega.{arith}
use Rattle.refusal.specs.declared.Reason.{Reason}
use Rattle.refusal.specs.Reasons.{reason_number}
use Rattle.refusal.specs.Tries.{first}
use Rattle.refusal.proofs.Reasons.{reason_positive}
use Rattle.refusal.proofs.Ladder.{all_pass}
use Rattle.key_pairs.proofs.Pairs.{pair_length, pair_one_length}
use Rattle.pages.specs.Keyed.{enciphering}
use Rattle.pages.proofs.Lengths.{length-page}
use Rattle.sealing.specs.Sealing.{seal_tries, sealed}
use Rattle.sealing.specs.ForProver.{Sealable}

-- the record that the code is handed, and the room for it
pub record Passed (first second rounds payload : ℕ) (scratch out : List ℕ) : Type 0 where
  pub sealable : Sealable first second rounds payload (length (take 576 scratch)) (length (take 512 out))
  pub scratch_room : 576 ≤ length scratch
  pub out_room : 512 ≤ length out

-- what was tried is what the code that makes the page is handed
pub sealable : (key₁ key₂ : List ℕ) (rounds block : ℕ) (payload scratch out : List ℕ) → first (seal_tries key₁ key₂ rounds block payload scratch out) ≡ 0
    → Passed (length key₁) (length key₂) rounds (length payload) scratch out
sealable key₁ key₂ rounds block payload scratch out e =
    let p = all_pass (seal_tries key₁ key₂ rounds block payload scratch out) refl e in
    let s = leb 576 (length scratch) in
    let o = leb 512 (length out) in
    let scratch-room = leb-true 576 (length scratch) (and_first s o p.1.1.0) in
    let out-room = leb-true 512 (length out) (and_second s o p.1.1.0) in
    record {
      sealable = record {
        key-length = pair_length key₁ key₂ p.0;
        one_length = pair_one_length key₁ key₂ p.0;
        round-count = p.1.0;
        fits = leb-true (length payload) 492 p.1.1.1.1.0;
        scratch = length-take-le 576 scratch scratch-room;
        page = length-take-le 512 out out-room;
      };
      scratch_room = scratch-room;
      out_room = out-room;
    }

pub length_sealed : (key₁ key₂ : List ℕ) (rounds block number : ℕ) (payload : List ℕ) → length payload ≤ 492
    → length (sealed key₁ key₂ rounds block number payload) ≡ 512
unfolding sealed
length_sealed key₁ key₂ rounds block number payload fits =
    length-page (enciphering key₁ rounds) (enciphering key₂ rounds) block number payload fits

-- where the pair is refused, what is tried after it does not count
pub pair_refused : (r : Reason) (a b : Bool) (more : ℕ) → reason_number r ≡ cond a (cond b 0 2) 1 → reason_number r ≡ cond a (cond b more 2) 1
pair_refused r true true more e = let z : ⊥ = omega (arith, reason_positive r, e) in absurd z
pair_refused r true false more e = e
pair_refused r false b more e = e
