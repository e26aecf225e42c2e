-- The worked cases hold: each is computed from the definitions.
use mathlib.Core.Path.{refl}
use Rattle.field.specs.Field.{times, product, reduced}
use Rattle.sbox.specs.Sbox.{sbox, table_p, table_q}
use Rattle.stages.specs.Columns.{columns, plus, column_rule}
use Rattle.stages.specs.Stages.{moved, linear_step, constant, stage}
use Rattle.grant.specs.Grants.{plain_grant}
use Rattle.cases.specs.Cases.{cases, CasesHold}

pub cases_hold : CasesHold
unfolding CasesHold cases sbox table_p table_q times product reduced column_rule columns stage linear_step moved plus constant plain_grant
cases_hold = (refl, (refl, (refl, (refl, (refl, (refl, (refl, (refl, (refl, (refl, (refl, (refl, (refl, tt)))))))))))))
