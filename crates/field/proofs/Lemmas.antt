-- A term of each type of specs/Lemmas.antt.
use mathlib.Core.Path.{refl}
use Rattle.field.specs.Field.{product, reduced, times}
use Rattle.field.specs.Lemmas.{AdditionLaws, MultiplicationLaws, CubeRootLaws}
use Rattle.field.proofs.Addition.{assoc, comm, self, zero_right, byte}
use Rattle.field.proofs.Linear.{times-left, times-right}
use Rattle.field.proofs.Multiplication.{times_comm, times_assoc, one_times, times_byte}

pub addition_laws : AdditionLaws
addition_laws = record { associative = assoc; commutative = comm; zero_neutral = zero_right; self_inverse = self; stays_a_byte = byte }

pub multiplication_laws : MultiplicationLaws
multiplication_laws = record {
  distributes_right = times-right;
  distributes_left = times-left;
  commutative = times_comm;
  associative = times_assoc;
  one_neutral = one_times;
  stays_a_byte = times_byte;
}

pub cube_root_laws : CubeRootLaws
unfolding times product reduced
cube_root_laws = record { square = refl; inverse = refl }
