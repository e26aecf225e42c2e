-- What a check has to show at each return.
use mathlib.Core.Path.{◌≡◌, sym, ap, ◌∙◌}
use mathlib.Core.List.{List}
use Prim.Native.Nat.{ℕ, ◌<◌}
use Rattle.refusal.specs.Tries.{Try, first, answered}
use Rattle.refusal.proofs.Answers.{answer-refused}

module _ (ts : List Try) (contractor right : ℕ) where
  -- number, contractor and right of an answer
  abbrev pub Tells : ℕ → ℕ → ℕ → Type 0
  Tells n c r = (n ≡ first ts) × ((c ≡ answered (first ts) contractor 0) × (r ≡ answered (first ts) right 0))

  pub verdict_refused : (n : ℕ) → 0 < n → first ts ≡ n → Tells n 0 0
  verdict_refused n h e = (sym e, (answer-refused ts n contractor 0 h e, answer-refused ts n right 0 h e))

  -- where all that is tried first passes, the answer is that of the rest
  pub verdict_passed : (rest : List Try) (n c r : ℕ) → first ts ≡ first rest
      → (n ≡ first rest) × ((c ≡ answered (first rest) contractor 0) × (r ≡ answered (first rest) right 0)) → Tells n c r
  verdict_passed rest n c r e h =
      (h.0 ∙ sym e, (h.1.0 ∙ ap (λ (m : ℕ). answered m contractor 0) (sym e), h.1.1 ∙ ap (λ (m : ℕ). answered m right 0) (sym e)))
