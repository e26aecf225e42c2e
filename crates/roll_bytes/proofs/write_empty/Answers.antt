-- `roll_bytes::write_empty` meets its contract.
use mathlib.Core.Path.{sym}
use native.Mathlib.Omega.{arith}
use lib.Seq.{length-take-le}
use Rattle.roll_bytes.specs.RollBytes.{counts_length}
use Rattle.roll_bytes.proofs.Entries.{emptied}
use Rattle.roll_bytes.proofs.write_empty.Goals as goal

pub slice_bounds-fill-end-2 : goal.slice_bounds-fill-end-2
slice_bounds-fill-end-2 c = sym (length-take-le counts_length c.args.out.now (omega (arith, c.requires)))

pub returns : goal.returns
returns c = emptied c.args.out.now _ _ c.requires (c.fill.ensures.after (λ y e. e)) (c.fill-2.ensures.after (λ y e. e))
