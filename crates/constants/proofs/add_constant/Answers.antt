-- `constants::add_constant` meets its contract.
use mathlib.Core.Path.{◌≡◌, sym, ap, ◌∙◌}
use mathlib.Core.Logic.{inl, inr}
use mathlib.Core.List.{List, ◌++◌}
use Prim.Native.Nat.{ℕ, ◌*◌}
use native.Mathlib.Omega.{arith}
use lib.ListN.{length, drop}
use Rattle.sizes.specs.Sizes.{Sized}
use Rattle.stages.specs.Columns.{plus}
use Rattle.stages.specs.Stages.{zeros, step_constant}
use Rattle.stages.proofs.Constants.{inner_constant, closing_constant, no_constant_first, no_constant_past, plus_zeros_kept}
use Rattle.constants.proofs.add_constant.Goals as goal

-- what stands after x is added to a stage; where x is the zero constant, that is what stood there
added : ℕ → List ℕ → List ℕ → List ℕ
added t k x = plus (2 * t) k x ++ drop (6 * t) k

none-added : (t s : ℕ) (k : List ℕ) → Sized t → length k ≡ 24 → step_constant t s ≡ zeros (2 * t) → k ≡ added t k (step_constant t s)
unfolding added
none-added t s k z l e = plus_zeros_kept t k (omega (arith, z.most)) ∙ sym (ap (added t k) e)

pub returns-then-s-turn : goal.returns-then-s-turn
unfolding added
returns-then-s-turn c = c.add_row.ensures ∙ ap (added c.args.t c.args.k.now) (sym (inner_constant c.args.t c.args.s (omega arith) (omega arith)))

pub returns-then-s-turn-2 : goal.returns-then-s-turn-2
unfolding added
returns-then-s-turn-2 c = c.add_closing.ensures ∙ ap (added c.args.t c.args.k.now) (sym (closing_constant c.args.t c.args.s (omega arith)))

pub returns-else-s-turn-2 : goal.returns-else-s-turn-2
unfolding added
returns-else-s-turn-2 c = none-added c.args.t c.args.s c.args.k.now c.requires c.told-k (elim c.else-s-gt0.either [
  | inl p ↦ no_constant_past c.args.t c.args.s (omega (arith, p.1))
  | inr z ↦ no_constant_first c.args.t c.args.s (omega (arith, z)) z
])
