-- `page_contents::check_agrees` meets its contract.
use mathlib.Core.Path.{ap₂, ◌∙◌}
use Prim.Native.Nat.{◌-◌}
use native.Mathlib.Omega.{arith}
use lib.ListN.{length, drop, length-drop}
use lib.Seq.{take_all}
use Rattle.byte_slices.specs.Slices.{same_bytes}
use Rattle.pages.specs.Pages.{check_agrees}
use Rattle.page_contents.proofs.check_agrees.Goals as goal

pub returns-clause-value : goal.returns-clause-value
unfolding check_agrees
returns-clause-value c =
    let page = c.args.page.now in
    let part = take_all (length page - 504) (drop 504 page) (omega (arith, length-drop 504 page)) in
    c.same.ensures ∙ ap₂ same_bytes c.check_under-check.ensures.value part
