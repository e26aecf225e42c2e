-- What was tried of a queue, by name: what is known where none of the tries holds, and back. A try more is a field more here, and no proof that uses
-- the others changes.
use mathlib.Core.Path.{◌≡◌}
use mathlib.Core.Bool.{Bool, true}
use Prim.Native.Nat.{ℕ}
use lib.Dec.{leb}
use Rattle.refusal.specs.Tries.{NoneHolds}
use Rattle.sizes.specs.Sizes.{key_length, rounds_allowed}
use Rattle.size_blocks.specs.SizeBlocks.{is_size_block}
use Rattle.rights.specs.Rights.{is_right}
use Rattle.queue_parts.specs.QueueParts.{grants_in, queue_input_tries}

pub record QueuePassed (n rounds : ℕ) (lengths : Bool) (grants room block right : ℕ) : Type 0 where
  pub key-length : key_length n ≡ true
  pub round-count : rounds_allowed n rounds ≡ true
  pub long : lengths ≡ true
  pub fits : leb (grants_in grants) room ≡ true
  pub asked : is_right right ≡ true
  pub some_block : is_size_block block ≡ true

module _ (n rounds : ℕ) (lengths : Bool) (grants room block right : ℕ) where
  pub queue_passed : NoneHolds (queue_input_tries n rounds lengths grants room block right) → QueuePassed n rounds lengths grants room block right
  queue_passed h =
      let q = h.1.1.1 in
      record { key-length = h.0; round-count = h.1.0; long = h.1.1.0; fits = q.0; asked = q.1.0; some_block = q.1.1.0 }

  pub queue_passes : QueuePassed n rounds lengths grants room block right → NoneHolds (queue_input_tries n rounds lengths grants room block right)
  queue_passes p = (p.key-length, (p.round-count, (p.long, (p.fits, (p.asked, (p.some_block, tt))))))
