-- `field::times_c` meets its contract.
use borrow.Author.Rules.{rules}
use Rattle.field.proofs.Constants.{times_c_is}
use Rattle.field.proofs.times_c.Statement.{statement}
use Rattle.field.proofs.times_c.Tie as tie

returns : tie.Need-returns
returns c = cc (times_c_is c.before.before.before.before.args.x (search rules))

pub times_c_spec : {M : Type 1} → statement M
times_c_spec =
    tie.close (tie.spec (λ c κs. search rules) (λ c κs. search rules) (λ c κs. search rules) (λ c κs. search rules)
    returns)
