-- A page that may be looked into: what was tried of it, and what the code that does so is handed; and a call that goes on from a list of tries.
use mathlib.Core.Path.{◌≡◌, refl}
use mathlib.Core.Bool.{Bool, true, false, cond, ◌&&◌}
use mathlib.Core.List.{List}
use Prim.Native.Nat.{ℕ, ◌≤◌}
use native.Mathlib.Omega.{arith}
use lib.Dec.{eqb, leb}
use lib.ListN.{length, take, drop}
use lib.Seq.{length-take-le}
use borrow.Author.Tests.{eqb-true, leb-true}
use Rattle.basics.proofs.Tests.{and_first, and_second}
use Rattle.refusal.specs.declared.Reason.{Reason}
use Rattle.refusal.specs.Reasons.{reason_number}
use Rattle.refusal.specs.Tries.{first}
use Rattle.refusal.proofs.Reasons.{reason_positive}
use Rattle.refusal.proofs.Ladder.{all_pass}
use Rattle.byte_slices.specs.Slices.{all_zero}
use Rattle.key_pairs.proofs.Pairs.{pair_length, pair_one_length}
use Rattle.pages.specs.Pages.{used_in, page_form}
use Rattle.opening.specs.Opening.{open_input_tries}
use Rattle.opening.specs.ForProver.{Openable}

-- the record that the code is handed, and the room for it
pub record Passed (first second rounds : ℕ) (page scratch : List ℕ) (out : ℕ) : Type 0 where
  pub openable : Openable first second rounds page (length (take 576 scratch)) out
  pub scratch_room : 576 ≤ length scratch

-- what was tried is what the code that looks into the page is handed
pub openable : (key₁ key₂ : List ℕ) (rounds : ℕ) (page scratch out : List ℕ) → first (open_input_tries key₁ key₂ rounds page scratch out) ≡ 0
    → Passed (length key₁) (length key₂) rounds page scratch (length out)
unfolding page_form
openable key₁ key₂ rounds page scratch out e =
    let p = all_pass (open_input_tries key₁ key₂ rounds page scratch out) refl e in
    let s = leb 576 (length scratch) in
    let o = leb 492 (length out) in
    let n = eqb (length page) 512 in
    let u = leb (used_in page) 492 in
    let z = all_zero (take 4 (drop 8 page)) in
    let form = p.1.1.1.0 in
    let room = leb-true 576 (length scratch) (and_first s o p.1.1.0) in
    record {
      openable = record {
        key-length = pair_length key₁ key₂ p.0;
        one_length = pair_one_length key₁ key₂ p.0;
        round-count = p.1.0;
        size = eqb-true (length page) 512 (and_first n (u && z) form);
        used = leb-true (used_in page) 492 (and_first u z (and_second n (u && z) form));
        scratch = length-take-le 576 scratch room;
        fits = leb-true 492 (length out) (and_second s o p.1.1.0);
      };
      scratch_room = room;
    }

-- where the pair is refused, what is tried after it does not count
pub pair_refused : (r : Reason) (a b : Bool) (more : ℕ) → reason_number r ≡ cond a (cond b 0 2) 1 → reason_number r ≡ cond a (cond b more 2) 1
pair_refused r true true more e = let z : ⊥ = omega (arith, reason_positive r, e) in absurd z
pair_refused r true false more e = e
pair_refused r false b more e = e

-- the same of all that is tried before any work; and where it all passes, what is tried after it counts alone
abbrev pub early : Bool → Bool → Bool → Bool → ℕ → ℕ
early a b c d more = cond a (cond b (cond c (cond d more 11) 4) 2) 1

pub input_refused : (r : Reason) (a b c d : Bool) (more : ℕ) → reason_number r ≡ early a b c d 0 → reason_number r ≡ early a b c d more
input_refused r true true true true more e = let z : ⊥ = omega (arith, reason_positive r, e) in absurd z
input_refused r true true true false more e = e
input_refused r true true false d more e = e
input_refused r true false c d more e = e
input_refused r false b c d more e = e

pub input_passed : (a b c d : Bool) (more : ℕ) → early a b c d 0 ≡ 0 → early a b c d more ≡ more
input_passed true true true true more e = refl
input_passed true true true false more e = let z : ⊥ = omega (arith, e) in absurd z
input_passed true true false d more e = let z : ⊥ = omega (arith, e) in absurd z
input_passed true false c d more e = let z : ⊥ = omega (arith, e) in absurd z
input_passed false b c d more e = let z : ⊥ = omega (arith, e) in absurd z
