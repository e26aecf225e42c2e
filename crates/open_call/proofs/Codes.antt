-- The answer as a number: it goes by the number of the refusal alone, and the used count fits.
use mathlib.Core.Path.{◌≡◌, refl}
use mathlib.Core.Bool.{Bool, true, false, cond}
use mathlib.Core.List.{List}
use Prim.Native.Nat.{ℕ, ◌≤◌}
use native.Mathlib.Omega.{arith}
use lib.Dec.{eqb}
use Rattle.refusal.proofs.Answers.{answer_either}
use Rattle.refusal.proofs.Ladder.{all_pass}
use Rattle.refusal.proofs.Tries.{none-given}
use Rattle.pages.specs.Pages.{used_in}
use Rattle.opening.specs.Opening.{open_input_tries, open_tries, open_number, opened_used}
use Rattle.refusal.specs.Tries.{first, answered}
use Rattle.opening.proofs.Tried.{openable}
use Rattle.open_call.specs.OpenCall.{header_code, open_code}

-- what is not answered does not count
pub code_of : (n block number used : ℕ) → open_code n (answered n block 0) (answered n number 0) (answered n used 0) ≡ open_code n block number used
unfolding open_code answered
code_of n block number used = by (eqb n 0)
  where
    by : (b : Bool) → cond b (header_code (cond b block 0) (cond b number 0) (cond b used 0)) n ≡ cond b (header_code block number used) n
    by true = refl
    by false = refl

module _ (key₁ key₂ : List ℕ) (rounds : ℕ) (page scratch out : List ℕ) where
  -- where nothing is refused, nothing is that is tried before any work
  early : open_number key₁ key₂ rounds page scratch out ≡ 0 → first (open_input_tries key₁ key₂ rounds page scratch out) ≡ 0
  early e =
      let p = all_pass (open_tries key₁ key₂ rounds page scratch out) refl e in
      none-given (open_input_tries key₁ key₂ rounds page scratch out) (p.0, (p.1.0, (p.1.1.0, (p.1.1.1.0, tt))))

  pub used_fits : opened_used key₁ key₂ rounds page scratch out ≤ 492
  unfolding opened_used
  used_fits =
      answer_either (λ (u : ℕ). u ≤ 492) (open_number key₁ key₂ rounds page scratch out) (used_in page) 0
      (λ e. (openable key₁ key₂ rounds page scratch out (early e)).openable.used) (omega arith)
