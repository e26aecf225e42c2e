-- The laws of the S-box: its own inverse and bound, by one computed test over the 256 bytes; and the regrouping of the top bits.
use mathlib.Core.Path.{◌≡◌}
use mathlib.Core.Bool.{Bool, ◌&&◌}
use Prim.Native.Nat.{ℕ, ◌/◌, ◌%◌, ◌<◌}
use native.Mathlib.Omega.{arith}
use lib.Dec.{T, eqb, eqb→eq, ltb, ltb→lt, lit<}
use lib.Bits.{bit_and, bit_or}
use Rattle.field.proofs.Computed.{and_left, and_right, all, passed, entry-below}
use lib.ListN.{get_or}
use Rattle.sbox.specs.Published.{published}
use Rattle.sbox.specs.Sbox.{table_p, table_q, mini_p, mini_q, join_tops, join_lows, sbox}

-- ---- the tables' entries have four bits
pub p_small : (x : ℕ) → mini_p x < 16
unfolding table_p
p_small = entry-below 16 (lit< tt) table_p tt

pub q_small : (x : ℕ) → mini_q x < 16
unfolding table_q
q_small = entry-below 16 (lit< tt) table_q tt

-- ---- the S-box undoes itself
right : ℕ → Bool
right x = eqb (sbox (sbox x)) x && ltb (sbox x) 256

test : T (all 256 right)
unfolding right sbox table_p table_q
test = tt

pub sbox-sbox : (x : ℕ) → x < 256 → sbox (sbox x) ≡ x
unfolding right
sbox-sbox x h = eqb→eq _ _ (and_left (eqb (sbox (sbox x)) x) (ltb (sbox x) 256) (passed 256 right test x h))

pub sbox_byte : (x : ℕ) → x < 256 → sbox x < 256
unfolding right
sbox_byte x h = ltb→lt _ _ (and_right (eqb (sbox (sbox x)) x) (ltb (sbox x) 256) (passed 256 right test x h))

-- for any number
pub sbox-small : (x : ℕ) → sbox x < 256
unfolding sbox
sbox-small x =
    let h₁ = mini_p (x / 16) in
    let l₁ = mini_q (x % 16) in
    let h₂ = mini_q (join_tops h₁ l₁) in
    let l₂ = mini_p (join_lows h₁ l₁) in
    omega (arith, p_small (join_tops h₂ l₂), q_small (join_lows h₂ l₂))

-- ---- the published table, by one computed test over its entries
pub is-published : (x : ℕ) → x < 256 → sbox x ≡ get_or published x 0
unfolding sbox table_p table_q published
is-published x h = eqb→eq (sbox x) (get_or published x 0) (passed 256 (λ x. eqb (sbox x) (get_or published x 0)) tt x h)

-- ---- two functions of the halves of a byte that agree at all halves
module _ (f g : ℕ → ℕ → ℕ) where
  abbrev Same : Bool
  Same = all 16 (λ h. all 16 (λ l. eqb (f h l) (g h l)))

  halves : T Same → (h l : ℕ) → h < 16 → l < 16 → f h l ≡ g h l
  halves t h l hh hl = eqb→eq (f h l) (g h l) (passed 16 (λ l. eqb (f h l) (g h l)) (passed 16 (λ h. all 16 (λ l. eqb (f h l) (g h l))) t h hh) l hl)

pub tops_is : (h l : ℕ) → h < 16 → l < 16 → bit_or (bit_and h 12) (l / 4) ≡ join_tops h l
tops_is = halves (λ h l. bit_or (bit_and h 12) (l / 4)) join_tops tt
