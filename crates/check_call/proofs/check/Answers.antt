-- `check_call::check` meets its contract.
use mathlib.Core.Path.{refl}
use borrow.Author.Rules.{rules}
use Rattle.refusal.specs.Tries.{first, answered}
use Rattle.check_call.specs.CheckCall.{call_code}
use Rattle.check_call.proofs.Codes.{contractor-most, answers}
use Rattle.check_call.proofs.check.Goals as goal

pub verdict_code-requires : goal.verdict_code-requires
verdict_code-requires c = contractor-most _ _ _ _ _ _ _ c.check_on.result c.check_on.ensures.contractor_value refl

pub returns : goal.returns
unfolding first answered call_code
returns c =
    let v = c.check_on.ensures in
    search (rules, answers c.check_on.result _ _ _ _ c.verdict_code.ensures v.result_value v.contractor_value v.right_value)
