-- The 6t-th power of the linear step is the identity. The step is run once, on letters: each byte of a stage is a sum of the key's
-- bytes, each times 0, 1, c or c + 1, so a stage is a list of such sums. What the letters come to is what the bytes come to.
use mathlib.Core.Path.{◌≡◌, refl, sym, ap, ap₂, ◌∙◌, subst}
use mathlib.Core.Bool.{Bool}
use mathlib.Core.List.{List, [], ◌∷◌, map}
use Prim.Native.Nat.{ℕ, zero, suc, ◌+◌, ◌-◌, ◌*◌, ◌<◌}
use native.Mathlib.Nat.{not-suc-le-zero, le_of_suc-le-suc}
use native.Mathlib.Omega.{arith}
use lib.ListN.{get_or, get_or-map}
use lib.Dec.{T, eqb, eqb→eq}
use lib.Bits.{bit_xor}
use Rattle.field.specs.Field.{◌⊕◌, times, product, reduced, cube_root}
use Rattle.field.proofs.Computed.{all, passed}
use Rattle.field.proofs.Addition.{assoc, comm, cancel, self, zero_right, exchange}
use Rattle.field.proofs.Linear.{same, agree_bytes, times-right}
use Rattle.field.proofs.Multiplication.{times_zero}
use Rattle.stages.specs.Columns.{cell, columns, fill, IsStage, filled, column_rule}
use Rattle.sizes.specs.Sizes.{Sized}
use Rattle.stages.specs.Stages.{next, previous, by_row, moved, rotated, linear_step}
use Rattle.stages.proofs.Columns.{fill_path, cell-fill}
use Rattle.basics.specs.Repeated.{repeated}
use Rattle.stages.proofs.Alike.{alike, alike_sound}

-- ---- the numbers 0, 1, c and c + 1
data Four : Type 0 where
  o i c d : Four

◌⊞◌ : Four → Four → Four
◌⊞◌ o y = y
◌⊞◌ i o = i
◌⊞◌ i i = o
◌⊞◌ i c = d
◌⊞◌ i d = c
◌⊞◌ c o = c
◌⊞◌ c i = d
◌⊞◌ c c = o
◌⊞◌ c d = i
◌⊞◌ d o = d
◌⊞◌ d i = c
◌⊞◌ d c = i
◌⊞◌ d d = o

c_times : Four → Four
c_times o = o
c_times i = c
c_times c = d
c_times d = i

-- a number times a byte
term : Four → ℕ → ℕ
term o x = 0
term i x = x
term c x = times cube_root x
term d x = x ⊕ times cube_root x

term_sum : (f g : Four) (x : ℕ) → term (◌⊞◌ f g) x ≡ term f x ⊕ term g x
unfolding term ◌⊞◌
term_sum o g x = refl
term_sum i o x = sym (zero_right x)
term_sum i i x = sym (self x)
term_sum i c x = refl
term_sum i d x = sym (cancel x (times cube_root x))
term_sum c o x = sym (zero_right (times cube_root x))
term_sum c i x = comm x (times cube_root x)
term_sum c c x = sym (self (times cube_root x))
term_sum c d x = sym (ap (bit_xor (times cube_root x)) (comm x (times cube_root x)) ∙ cancel (times cube_root x) x)
term_sum d o x = sym (zero_right (x ⊕ times cube_root x))
term_sum d i x = sym (assoc x (times cube_root x) x ∙ ap (bit_xor x) (comm (times cube_root x) x) ∙ cancel x (times cube_root x))
term_sum d c x = sym (assoc x (times cube_root x) (times cube_root x) ∙ ap (bit_xor x) (self (times cube_root x)) ∙ zero_right x)
term_sum d d x = sym (self (x ⊕ times cube_root x))

-- c times c is c + 1
square : (x : ℕ) → x < 256 → times cube_root (times cube_root x) ≡ x ⊕ times cube_root x
unfolding same times product reduced
square = agree_bytes (λ x. times cube_root (times cube_root x)) (λ x. x ⊕ times cube_root x)
    (λ x y. ap (times cube_root) (times-right cube_root x y) ∙ times-right cube_root (times cube_root x) (times cube_root y))
    (λ x y. ap (bit_xor (x ⊕ y)) (times-right cube_root x y) ∙ exchange x y (times cube_root x) (times cube_root y)) tt

term_c : (f : Four) (x : ℕ) → x < 256 → term (c_times f) x ≡ times cube_root (term f x)
unfolding term c_times
term_c o x h = sym (times_zero cube_root)
term_c i x h = refl
term_c c x h = sym (square x h)
term_c d x h =
    let y = times cube_root x in
    sym (times-right cube_root x y ∙ ap (bit_xor y) (square x h) ∙ ap (bit_xor y) (comm x y) ∙ cancel y x)

-- ---- sums of multiples
sum : List Four → List Four → List Four
sum [] w = w
sum (f ∷ v) [] = f ∷ v
sum (f ∷ v) (g ∷ w) = ◌⊞◌ f g ∷ sum v w

value : List ℕ → List Four → ℕ
value xs [] = 0
value [] (f ∷ v) = 0
value (x ∷ xs) (f ∷ v) = term f x ⊕ value xs v

value_sum : (xs : List ℕ) (v w : List Four) → value xs (sum v w) ≡ value xs v ⊕ value xs w
unfolding value sum
value_sum xs [] w = refl
value_sum [] (f ∷ v) [] = refl
value_sum [] (f ∷ v) (g ∷ w) = refl
value_sum (x ∷ xs) (f ∷ v) [] = sym (zero_right (term f x ⊕ value xs v))
value_sum (x ∷ xs) (f ∷ v) (g ∷ w) = ap₂ bit_xor (term_sum f g x) (value_sum xs v w) ∙ exchange (term f x) (term g x) (value xs v) (value xs w)

abbrev pub Bytes : List ℕ → Type 0
Bytes [] = Unit {0}
Bytes (x ∷ xs) = (x < 256) × Bytes xs

value_c : (xs : List ℕ) → Bytes xs → (v : List Four) → value xs (map c_times v) ≡ times cube_root (value xs v)
unfolding value
value_c xs h [] = sym (times_zero cube_root)
value_c [] h (f ∷ v) = sym (times_zero cube_root)
value_c (x ∷ xs) h (f ∷ v) = ap₂ bit_xor (term_c f x h.0) (value_c xs h.1 v) ∙ sym (times-right cube_root (term f x) (value xs v))

-- n times 0
none : ℕ → List Four
none zero = []
none (suc n) = o ∷ none n

value_none : (xs : List ℕ) (n : ℕ) → value xs (none n) ≡ 0
unfolding value none term
value_none xs zero = refl
value_none [] (suc n) = refl
value_none (x ∷ xs) (suc n) = value_none xs n

-- of n bytes, the one at place p
letter : ℕ → ℕ → List Four
letter zero p = []
letter (suc n) zero = i ∷ none n
letter (suc n) (suc p) = o ∷ letter n p

value_letter : (xs : List ℕ) (n p : ℕ) → p < n → value xs (letter n p) ≡ get_or xs p 0
unfolding value letter term
value_letter xs zero p h = absurd (not-suc-le-zero h)
value_letter [] (suc n) zero h = refl
value_letter [] (suc n) (suc p) h = refl
value_letter (x ∷ xs) (suc n) zero h = ap (bit_xor x) (value_none xs n) ∙ zero_right x
value_letter (x ∷ xs) (suc n) (suc p) h = value_letter xs n p (le_of_suc-le-suc h)

-- ---- the linear_step on letters
cellₗ : List (List Four) → ℕ → ℕ → List Four
cellₗ k r j = get_or k (r + 3 * j) []

rotatedₗ : ℕ → List (List Four) → List (List Four)
rotatedₗ n k = fill n (λ r j. cellₗ k r (by_row r j (next n j) (previous n j)))

spreadₗ : ℕ → List (List Four) → List (List Four)
spreadₗ n k = fill n (λ r j. sum (cellₗ k r j) (map c_times (sum (cellₗ k 0 j) (sum (cellₗ k 1 j) (cellₗ k 2 j)))))

stepₗ : ℕ → List (List Four) → List (List Four)
stepₗ n k = spreadₗ n (rotatedₗ n k)

-- ---- evaluation commutes
module _ (xs : List ℕ) where
  eval : List (List Four) → List ℕ
  eval = map (value xs)

  eval_columns : (j n : ℕ) (f : ℕ → ℕ → List Four) → eval (columns j n f) ≡ columns j n (λ r m. value xs (f r m))
  unfolding eval columns
  eval_columns j zero f = refl
  eval_columns j (suc n) f = ap {B = List ℕ} (λ l. value xs (f 0 j) ∷ value xs (f 1 j) ∷ value xs (f 2 j) ∷ l) (eval_columns (suc j) n f)

  eval_cell : (k : List (List Four)) (r j : ℕ) → cell (eval k) r j ≡ value xs (cellₗ k r j)
  unfolding eval cellₗ value
  eval_cell k r j = get_or-map (value xs) k (r + 3 * j) []

  eval_rotated : (n : ℕ) (k : List (List Four)) → eval (rotatedₗ n k) ≡ rotated n (eval k)
  unfolding rotatedₗ moved
  eval_rotated n k = eval_columns 0 n (λ r j. cellₗ k r (by_row r j (next n j) (previous n j)))
      ∙ fill_path n _ _ (λ r j hr hj. sym (eval_cell k r (by_row r j (next n j) (previous n j))))

  module _ (small : Bytes xs) where
    eval_spread : (n : ℕ) (k : List (List Four)) → eval (spreadₗ n k) ≡ column_rule cube_root n (eval k)
    unfolding spreadₗ column_rule
    eval_spread n k = eval_columns 0 n (λ r j. sum (cellₗ k r j) (map c_times (sum (cellₗ k 0 j) (sum (cellₗ k 1 j) (cellₗ k 2 j)))))
        ∙ fill_path n _ _ (λ r j hr hj.
        value_sum xs (cellₗ k r j) (map c_times (sum (cellₗ k 0 j) (sum (cellₗ k 1 j) (cellₗ k 2 j))))
        ∙ ap₂ bit_xor (sym (eval_cell k r j))
        (value_c xs small (sum (cellₗ k 0 j) (sum (cellₗ k 1 j) (cellₗ k 2 j)))
        ∙ ap (times cube_root) (value_sum xs (cellₗ k 0 j) (sum (cellₗ k 1 j) (cellₗ k 2 j))
        ∙ ap₂ bit_xor (sym (eval_cell k 0 j)) (value_sum xs (cellₗ k 1 j) (cellₗ k 2 j)
        ∙ ap₂ bit_xor (sym (eval_cell k 1 j)) (sym (eval_cell k 2 j))))))

    eval_step : (n : ℕ) (k : List (List Four)) → eval (stepₗ n k) ≡ linear_step n (eval k)
    unfolding stepₗ linear_step
    eval_step n k = eval_spread n (rotatedₗ n k) ∙ ap (column_rule cube_root n) (eval_rotated n k)

    eval_steps : (n m : ℕ) (k : List (List Four)) → eval (repeated m (stepₗ n) k) ≡ repeated m (linear_step n) (eval k)
    eval_steps n zero k = refl
    eval_steps n (suc m) k = eval_step n (repeated m (stepₗ n) k) ∙ ap (linear_step n) (eval_steps n m k)

-- every byte, as a letter
letters : ℕ → List (List Four)
letters n = fill n (λ r j. letter (3 * n) (r + 3 * j))

eval_letters : (n : ℕ) (f : ℕ → ℕ → ℕ) → eval (fill n f) (letters n) ≡ fill n f
unfolding letters
eval_letters n f = eval_columns (fill n f) 0 n (λ r j. letter (3 * n) (r + 3 * j))
    ∙ fill_path n _ f (λ r j hr hj. value_letter (fill n f) (3 * n) (r + 3 * j) (omega arith) ∙ cell-fill n f r j hr hj)

pub bytes-columns : (j n : ℕ) (f : ℕ → ℕ → ℕ) → ((r m : ℕ) → f r m < 256) → Bytes (columns j n f)
unfolding columns
bytes-columns j zero f h = tt
bytes-columns j (suc n) f h = (h 0 j, (h 1 j, (h 2 j, bytes-columns (suc j) n f h)))

-- ---- the test on letters
code : Four → ℕ
code o = 0
code i = 1
code c = 2
code d = 3

decode : ℕ → Four
decode zero = o
decode (suc zero) = i
decode (suc (suc zero)) = c
decode (suc (suc (suc n))) = d

decode_code : (f : Four) → decode (code f) ≡ f
unfolding code decode
decode_code o = refl
decode_code i = refl
decode_code c = refl
decode_code d = refl

four_test : Four → Four → Bool
four_test f g = eqb (code f) (code g)

four_sound : (f g : Four) → T (four_test f g) → f ≡ g
unfolding four_test
four_sound f g t = sym (decode_code f) ∙ ap decode (eqb→eq (code f) (code g) t) ∙ decode_code g

comes_round : ℕ → Bool
comes_round t = alike (alike four_test) (repeated (6 * t) (stepₗ (2 * t)) (letters (2 * t))) (letters (2 * t))

-- at t = 2, 3 and 4
come_round : T (all 3 (λ u. comes_round (2 + u)))
unfolding comes_round alike four_test code stepₗ rotatedₗ spreadₗ cellₗ letters letter none sum ◌⊞◌ c_times columns
come_round = tt

pub period : (t : ℕ) → Sized t → {k : List ℕ} → IsStage (2 * t) k → repeated (6 * t) (linear_step (2 * t)) k ≡ k
unfolding comes_round
period t z (filled f h) =
    ap (repeated (6 * t) (linear_step (2 * t))) (sym (eval_letters (2 * t) f))
    ∙ sym (eval_steps (fill (2 * t) f) (bytes-columns 0 (2 * t) f h) (2 * t) (6 * t) (letters (2 * t)))
    ∙ ap (eval (fill (2 * t) f)) (alike_sound (alike four_test) (alike_sound four_test four_sound) _ _ round)
    ∙ eval_letters (2 * t) f
  where
    e : 2 + (t - 2) ≡ t
    e = omega (arith, z.least)

    round : T (comes_round t)
    round = subst (λ (x : ℕ). T (comes_round x)) e (passed 3 (λ u. comes_round (2 + u)) come_round (t - 2) (omega (arith, z.least, z.most)))
