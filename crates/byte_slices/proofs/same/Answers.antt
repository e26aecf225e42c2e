-- `byte_slices::same` meets its contract.
use mathlib.Core.Path.{sym, ◌∙◌}
use Rattle.byte_slices.proofs.Equal.{same_length, same_next, same_end}
use Rattle.byte_slices.proofs.same.Goals as goal

pub returns-then-a-b : goal.returns-then-a-b
returns-then-a-b c = sym (same_length _ _ c.if-a-b.true)

pub loop-i-preserved : goal.loop-i-preserved
loop-i-preserved c = let e = c.loop-i.invariant in (e.0 ∙ same_next _ _ c.loop-i.i c.loop-i.equal c.loop-i-test.true e.1, e.1)

pub returns : goal.returns
returns c = let l = c.loop-i in sym (l.invariant.0 ∙ same_end _ _ l.i l.equal c.loop-i-test.false l.invariant.1)
