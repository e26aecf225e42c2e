-- `field::twice` meets its contract.
use borrow.Author.Rules.{rules}
use Rattle.field.proofs.Constants.{twice_is}
use Rattle.field.proofs.twice.Statement.{statement}
use Rattle.field.proofs.twice.Tie as tie

returns : tie.Need-returns
returns c = twice_is c.args.x (search rules)

pub twice_spec : {M : Type 1} → statement M
twice_spec = tie.close (tie.spec (λ c. search rules) returns)
