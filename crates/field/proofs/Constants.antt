-- What the code computes is multiplication by its constant.
use mathlib.Core.Path.{◌≡◌}
use Prim.Native.Nat.{ℕ, ◌*◌, ◌/◌, ◌%◌, ◌<◌}
use lib.Dec.{eqb, eqb→eq}
use lib.Bits.{bit_xor}
use Rattle.field.specs.Field.{times, product, reduced, cube_root}
use Rattle.field.proofs.Addition.{assoc, comm, left_comm}
use Rattle.field.proofs.Linear.{Linear, same, agree_bytes, times-right}
use Rattle.field.proofs.Computed.{passed}

pub twice_is : (x : ℕ) → x < 256 → bit_xor (x * 2 % 256) (x / 128 * 77) ≡ times 2 x
unfolding times product reduced
twice_is x h = eqb→eq _ _ (passed 256 (λ x. eqb (bit_xor (x * 2 % 256) (x / 128 * 77)) (times 2 x)) tt x h)

-- sixteen, eight and four times x, added
abbrev sum_c : ℕ → ℕ
sum_c x = bit_xor (times 2 (times 2 (times 2 (times 2 x)))) (bit_xor (times 2 (times 2 (times 2 x))) (times 2 (times 2 x)))

sum_c_linear : Linear sum_c
sum_c_linear x y = simp (times-right, assoc, left_comm, comm)

pub times_c_is : (x : ℕ) → x < 256 → sum_c x ≡ times cube_root x
unfolding same times product reduced
times_c_is = agree_bytes sum_c (times cube_root) sum_c_linear (times-right cube_root) tt
