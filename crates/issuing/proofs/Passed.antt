-- What was tried of an issue after its settings, by name: what is known where none of the tries holds, and back. A try more is a field more here, and
-- no proof that uses the others changes.
use mathlib.Core.Path.{◌≡◌}
use mathlib.Core.Bool.{true}
use Prim.Native.Nat.{ℕ}
use lib.Dec.{leb}
use Rattle.refusal.specs.Tries.{NoneHolds}
use Rattle.size_blocks.specs.SizeBlocks.{is_size_block}
use Rattle.roll.specs.declared.Entry.{Entry}
use Rattle.roll.specs.Roll.{is_contractor, in_standing}
use Rattle.rights.specs.Rights.{is_right, within_highest}
use Rattle.issuing.specs.Issuing.{wanted_tries}

pub record WantedPassed (room contractor block right : ℕ) (entry : Entry) : Type 0 where
  pub fits : leb 12 room ≡ true
  pub known : is_contractor contractor ≡ true
  pub asked : is_right right ≡ true
  pub some_block : is_size_block block ≡ true
  pub stands : in_standing entry.count ≡ true
  pub within : within_highest right entry.figure ≡ true

module _ (room contractor block right : ℕ) (entry : Entry) where
  pub wanted_passed : NoneHolds (wanted_tries room contractor block right entry) → WantedPassed room contractor block right entry
  wanted_passed h =
      let q = h.1.1 in
      record { fits = h.0; known = h.1.0; asked = q.0; some_block = q.1.0; stands = q.1.1.0; within = q.1.1.1.0 }

  pub wanted_passes : WantedPassed room contractor block right entry → NoneHolds (wanted_tries room contractor block right entry)
  wanted_passes w = (w.fits, (w.known, (w.asked, (w.some_block, (w.stands, (w.within, tt))))))
