-- `page_parts::check_under` meets its contract.
use mathlib.Core.Path.{sym}
use native.Mathlib.Omega.{arith}
use lib.Seq.{length-take-le}
use Rattle.page_parts.proofs.check_under.Goals as goal

pub slice_bounds-stored-end : goal.slice_bounds-stored-end
slice_bounds-stored-end c = sym (length-take-le 504 c.args.page.now (omega (arith, c.requires.1)))
