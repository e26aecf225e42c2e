-- The stages of a key in 24 bytes.
use mathlib.Core.Path.{◌≡◌, sym, ap, ◌∙◌}
use mathlib.Core.Bool.{true}
use mathlib.Core.List.{List, ◌++◌}
use Prim.Native.Nat.{ℕ, zero, suc, ◌+◌, ◌*◌, ◌<◌}
use native.Mathlib.Omega.{arith}
use native.Mathlib.Numerals.{add-one}
use lib.ListN.{length, drop}
use Rattle.stages.specs.Columns.{plus, padded}
use Rattle.sizes.specs.Sizes.{key_length, t_of, turn}
use Rattle.sizes.proofs.Keys.{a_key}
use Rattle.stages.specs.Stages.{constant, stage, step_constant, stage_after}
use Rattle.stages.proofs.Padded.{length_step, length-padded, next-held}
use Rattle.stages.proofs.Constants.{inner_step}

-- ---- stages in 24 bytes
pub length-stage : (t : ℕ) (key : List ℕ) → length key ≡ 3 * (2 * t) → (s : ℕ) → length (stage t key s) ≡ 3 * (2 * t)
unfolding stage
length-stage t key e zero = e
length-stage t key e (suc s) = length_step (2 * t) (plus (2 * t) (stage t key s) (constant t (suc s)))

module _ (key : List ℕ) (h : key_length (length key) ≡ true) where
  t : ℕ
  t = t_of (length key)

  pub key-length : length key ≡ 3 * (2 * t_of (length key))
  unfolding t
  key-length = omega (arith, (a_key (length key) h).is)

  -- a stage of the key fills 24 bytes
  pub held-length : (s : ℕ) (k : List ℕ) → k ≡ padded (stage (t_of (length key)) key s) → length k ≡ 24
  held-length s k e =
      let a = a_key (length key) h in
      let l = length-stage (t_of (length key)) key key-length s in
      ap length e ∙ length-padded (stage (t_of (length key)) key s) (omega arith)

  -- the code's next stage is the key's
  pub advanced : (s : ℕ) (k next : List ℕ) → s + 1 < turn (t_of (length key)) → k ≡ padded (stage (t_of (length key)) key s)
      → next ≡ stage_after (t_of (length key)) (s + 1) k ++ drop (6 * t_of (length key)) k → next ≡ padded (stage (t_of (length key)) key (s + 1))
  unfolding t stage_after
  advanced s k next h ek en =
      en
      ∙ next-held t (stage t key s) k ek (length-stage t key key-length s) (step_constant t (s + 1))
      ∙ ap (λ (m : ℕ). padded (stage_after t m (stage t key s))) (add-one s)
      ∙ ap padded (sym (inner_step t key s (omega arith)))
      ∙ ap (λ (m : ℕ). padded (stage t key m)) (sym (add-one s))
