-- The known answers: each is computed from the definitions.
use mathlib.Core.Path.{refl}
use Rattle.basics.specs.Cases.{Hold}
use Rattle.field.specs.Field.{times, product, reduced}
use Rattle.sbox.specs.Sbox.{sbox, table_p, table_q}
use Rattle.rounds.specs.Rounds.{listed_from, turned}
use Rattle.block_bytes.specs.Blocks.{list_bytes}
use Rattle.stages.specs.Columns.{columns, plus, column_rule}
use Rattle.stages.specs.Stages.{moved, linear_step, constant, stage}
use Rattle.key_lists.specs.KeyLists.{subkeys, list_for, prepared}
use Rattle.key_lists.specs.KnownAnswers.{known_answers}

pub known_answers_lem : Hold known_answers
unfolding known_answers sbox table_p table_q times product reduced columns plus column_rule moved linear_step constant stage
    list_bytes turned listed_from subkeys list_for prepared
known_answers_lem = (refl, (refl, tt))
