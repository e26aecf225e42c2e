-- What is written is as long as what it is written over.
use mathlib.Core.Path.{◌≡◌}
use lib.ListN.{length}
use Rattle.roll.specs.Roll.{empty_roll}
use Rattle.roll_bytes.specs.RollBytes.{roll_length, roll_bytes}
use Rattle.roll_bytes.proofs.Entries.{length-empty}

pub empty_length : length (roll_bytes empty_roll) ≡ roll_length
empty_length = length-empty
