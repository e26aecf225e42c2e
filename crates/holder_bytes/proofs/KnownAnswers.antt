-- The known answers: each is computed from the definitions.
use mathlib.Core.Path.{refl}
use Rattle.basics.specs.Cases.{Hold}
use Rattle.basics.proofs.Cases.{◌&◌}
use Rattle.field.specs.Field.{times, product, reduced}
use Rattle.sbox.specs.Sbox.{sbox, table_p, table_q}
use Rattle.stages.specs.Columns.{columns, plus, padded, column_rule}
use Rattle.stages.specs.Stages.{moved, linear_step, constant, stage}
use Rattle.holder_bytes.specs.HolderBytes.{holder_bytes}
use Rattle.holder_bytes.specs.KnownAnswers.{known_answers}

pub known_answers_lem : Hold known_answers
unfolding known_answers sbox table_p table_q times product reduced columns plus padded column_rule moved linear_step constant stage holder_bytes
known_answers_lem = refl & refl & refl & refl & refl & refl & tt
