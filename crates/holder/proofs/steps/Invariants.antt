-- `holder::steps` meets its contract. The invariant says what is done so far.
use mathlib.Core.Path.{◌≡◌}
use mathlib.Core.Bool.{true}
use Rattle.basics.specs.Repeated.{repeated}
use Rattle.holder.specs.Holder.{holding, whole, stepped}
use Rattle.holder.proofs.steps.Given as goal

abbrev pub invariant-loop : goal.invariant-loop
invariant-loop l = (holding l.length l.number l.bytes ≡ repeated l.counter (stepped l.way) (holding l.length l.initial.number l.initial.bytes))
    × (whole (holding l.length l.number l.bytes) ≡ true)
