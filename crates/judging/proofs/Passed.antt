-- What was tried of a grant that is checked, by name: what is known where none of the tries holds, and back. A try more is a field more here, and no
-- proof that uses the others changes.
use mathlib.Core.Path.{◌≡◌}
use mathlib.Core.Bool.{Bool, true}
use mathlib.Core.List.{List, ◌++◌}
use Prim.Native.Nat.{ℕ}
use lib.Dec.{eqb}
use Rattle.refusal.specs.Tries.{Try, NoneHolds}
use Rattle.sizes.specs.Sizes.{key_length, rounds_allowed}
use Rattle.size_blocks.specs.SizeBlocks.{is_size_block}
use Rattle.roll.specs.declared.Entry.{Entry}
use Rattle.roll.specs.Roll.{in_standing}
use Rattle.rights.specs.Rights.{is_right, covers, within_highest}
use Rattle.grant.specs.Grants.{count_in, size_block_in, right_in, is_grant}
use Rattle.judging.specs.Judging.{input_tries, plain_tries}

-- of the input
pub record InputPassed (n rounds : ℕ) (lengths : Bool) (block right : ℕ) : Type 0 where
  pub key-length : key_length n ≡ true
  pub round-count : rounds_allowed n rounds ≡ true
  pub long : lengths ≡ true
  pub asked : is_right right ≡ true
  pub some_block : is_size_block block ≡ true

-- with whatever is tried after it
module _ (n rounds : ℕ) (lengths : Bool) (block right : ℕ) (rest : List Try) where
  pub input_passed : NoneHolds (input_tries n rounds lengths block right ++ rest) → InputPassed n rounds lengths block right × NoneHolds rest
  input_passed h = (
    record { key-length = h.0; round-count = h.1.0; long = h.1.1.0; asked = h.1.1.1.0; some_block = h.1.1.1.1.0 },
    h.1.1.1.1.1,
  )

  pub input_passes : InputPassed n rounds lengths block right → NoneHolds rest → NoneHolds (input_tries n rounds lengths block right ++ rest)
  input_passes i h = (i.key-length, (i.round-count, (i.long, (i.asked, (i.some_block, h)))))

-- of the plain bytes
pub record PlainPassed (p : List ℕ) (entry : Entry) (block right : ℕ) : Type 0 where
  pub whole : is_grant p ≡ true
  pub same_block : eqb (size_block_in p) block ≡ true
  pub covered : covers (right_in p) right ≡ true
  pub stands : in_standing entry.count ≡ true
  pub same_count : eqb (count_in p) entry.count ≡ true
  pub within : within_highest right entry.figure ≡ true

module _ (p : List ℕ) (entry : Entry) (block right : ℕ) where
  pub plain-passed : NoneHolds (plain_tries p entry block right) → PlainPassed p entry block right
  plain-passed h =
      let s = h.1.1.1 in
      record { whole = h.0; same_block = h.1.0; covered = h.1.1.0; stands = s.0; same_count = s.1.0; within = s.1.1.0 }

  pub plain_passes : PlainPassed p entry block right → NoneHolds (plain_tries p entry block right)
  plain_passes t = (t.whole, (t.same_block, (t.covered, (t.stands, (t.same_count, (t.within, tt))))))
