-- `route_run::try_call` meets its contract.
use mathlib.Core.Path.{◌≡◌, ◌∙◌}
use lib.ListN.{replicate}
use Rattle.holder.specs.declared.Way.TheVariants.{Forward}
use Rattle.routes.specs.Routes.{forward, back, subkey, walk, returned, left_by, answer}
use Rattle.route_run.specs.Log.{logged_of, row_or}
use Rattle.route_run.proofs.Codes.{code_forward, code-back, code-subkey, code-walk, logged_as}
use borrow.Author.Rules.{rules}
use Rattle.route_run.proofs.try_call.Goals as goal

pub returns-in_err-forward : goal.returns-in_err-forward
unfolding logged_of answer left_by returned
returns-in_err-forward c = let h = c.args.h in
    let s : row_or h c.from_residual.result ≡ logged_of (answer forward h) (returned forward h) = search rules in
    s ∙ logged_as h (code_forward _ c.if-code-eq-FORWARD.true)

pub returns-then-code-eq-FORWARD : goal.returns-then-code-eq-FORWARD
unfolding logged_of answer left_by returned
returns-then-code-eq-FORWARD c = let f = c.in_ok-forward.ensures in
    (λ i. record { number = f.outcome_value i; steps = 0; way = Forward; subkey = replicate 12 0; holder = f.holder_value i })
    ∙ logged_as c.args.h (code_forward _ c.if-code-eq-FORWARD.true)

pub returns-in_err-back : goal.returns-in_err-back
unfolding logged_of answer left_by returned
returns-in_err-back c = let h = c.args.h in
    let s : row_or h c.from_residual-in_err-back.result ≡ logged_of (answer back h) (returned back h) = search rules in
    s ∙ logged_as h (code-back _ c.if-code-eq-BACK.true)

pub returns-then-code-eq-BACK : goal.returns-then-code-eq-BACK
unfolding logged_of answer left_by returned
returns-then-code-eq-BACK c = let b = c.in_ok-back.ensures in
    (λ i. record { number = b.outcome_value i; steps = 0; way = Forward; subkey = replicate 12 0; holder = b.holder_value i })
    ∙ logged_as c.args.h (code-back _ c.if-code-eq-BACK.true)

pub returns-in_err-subkey : goal.returns-in_err-subkey
unfolding logged_of answer left_by returned
returns-in_err-subkey c = let h = c.args.h in
    let s : row_or h c.from_residual-in_err-subkey.result ≡ logged_of (answer subkey h) (returned subkey h) = search rules in
    s ∙ logged_as h (code-subkey _ c.if-code-eq-SUBKEY.true)

pub returns-then-code-eq-SUBKEY : goal.returns-then-code-eq-SUBKEY
unfolding logged_of answer left_by returned
returns-then-code-eq-SUBKEY c = let s = c.in_ok-subkey.ensures in
    (λ i. record { number = s.outcome_value i; steps = 0; way = Forward; subkey = s.subkey_value i; holder = c.args.h })
    ∙ logged_as c.args.h (code-subkey _ c.if-code-eq-SUBKEY.true)

pub returns-in_err-walked : goal.returns-in_err-walked
unfolding logged_of answer left_by returned
returns-in_err-walked c = let h = c.args.h in
    let d = c.args.code in
    let s : row_or h c.from_residual-in_err-walked.result ≡ logged_of (answer (walk d) h) (returned (walk d) h) = search rules in
    s ∙ logged_as h (code-walk _ c.if-code-eq-FORWARD.false c.if-code-eq-BACK.false c.if-code-eq-SUBKEY.false)

pub returns : goal.returns
unfolding logged_of answer left_by returned
returns c = let w = c.in_ok-walked.ensures in
    (λ i. record { number = w.outcome_value i; steps = w.steps_value i; way = w.way_value i; subkey = replicate 12 0; holder = w.holder_value i })
    ∙ logged_as c.args.h (code-walk _ c.if-code-eq-FORWARD.false c.if-code-eq-BACK.false c.if-code-eq-SUBKEY.false)
