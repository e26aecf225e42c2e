-- `page_steps::lay_out` meets its contract.
use mathlib.Core.Path.{ap, ◌∙◌}
use mathlib.Core.List.{List, ◌++◌}
use Prim.Native.Nat.{ℕ}
use lib.ListN.{length, drop}
use Rattle.pages.specs.Pages.{filled}
use Rattle.page_steps.proofs.Made.{laid_out}
use Rattle.page_steps.proofs.lay_out.Goals as goal

pub returns : goal.returns
returns c = let payload = c.args.payload.now in
    let out = c.args.out.now in
    laid_out c.header_of-head.result payload out (ap length c.header_of-head.ensures) c.requires.0 c.requires.1 _ _ _
    c.put_bytes.ensures c.put_payload.ensures c.clear.ensures
    ∙ ap (λ (x : List ℕ). x ++ (filled payload ++ drop 504 out)) c.header_of-head.ensures
