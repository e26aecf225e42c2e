-- Key stages: document 01, "Key stages"; paper 000, sections 3.5 to 3.8. A key of 6t bytes has 2t columns.
use Rattle.std.specs.Prelude.{cond, ◌&&◌, List, ℕ, zero, suc, ◌+◌, ◌-◌, ◌*◌, ◌%◌, ltb, eqb}
use Rattle.field.specs.Field.{◌⊕◌, cube_root}
use Rattle.sbox.specs.Sbox.{sbox}
use Rattle.layers.specs.State.{State, build}
use Rattle.sizes.specs.Sizes.{turn}
use Rattle.stages.specs.Columns.{cell, fill, plus, column_rule}

-- one column on, and one column back, around n columns
abbrev pub next : ℕ → ℕ → ℕ
next n j = (j + 1) % n

abbrev pub previous : ℕ → ℕ → ℕ
previous n j = (j + (n - 1)) % n

-- of three numbers, the one for row i
abbrev pub by_row : ℕ → ℕ → ℕ → ℕ → ℕ
by_row zero a b c = a
by_row (suc zero) a b c = b
by_row (suc (suc i)) a b c = c

-- row i, column j takes the byte of row i, column s i j
unfoldable pub moved : ℕ → (ℕ → ℕ → ℕ) → List ℕ → List ℕ
moved n s k = fill n (λ i j. cell k i (s i j))

-- row 0 stays, row 1 rotates one column left, row 2 one column right (the paper's xi)
abbrev pub rotated : ℕ → List ℕ → List ℕ
rotated n k = moved n (λ i j. by_row i j (next n j) (previous n j)) k

-- row 1 rotates one column right, row 2 one column left
abbrev pub unrotated : ℕ → List ℕ → List ℕ
unrotated n k = moved n (λ i j. by_row i j (previous n j) (next n j)) k

-- the linear step: the rotations, then the column rule with c (the paper's omega)
unfoldable pub linear_step : ℕ → List ℕ → List ℕ
linear_step n k = column_rule cube_root n (rotated n k)

-- its inverse: the column rule with c + 1, then the rotations undone
unfoldable pub inverse_step : ℕ → List ℕ → List ℕ
inverse_step n k = unrotated n (column_rule (cube_root ⊕ 1) n k)

-- which entry of the S-box constant s has in column j. The paper says that t entries are used for each constant; its formula has 2t
abbrev pub entry_of : ℕ → ℕ → ℕ → ℕ
entry_of t s j = 2 * t * (s - 1) + j

-- constant s, for s from 1 to 6t - 1: S[2t(s - 1) + j] in row 0, column j, and zero elsewhere
unfoldable pub constant : ℕ → ℕ → List ℕ
constant t s = fill (2 * t) (λ i j. by_row i (sbox (entry_of t s j)) 0 0)

-- stage 0 is the key; stage s is the linear step of (stage s - 1 plus constant s), for s up to 6t - 1. From 6t on it is defined, and is no stage of the
-- key: after stage 6t - 1 comes stage 0 again
unfoldable pub stage : ℕ → List ℕ → ℕ → List ℕ
stage t key zero = key
stage t key (suc s) = linear_step (2 * t) (plus (2 * t) (stage t key s) (constant t (suc s)))

-- the key of zeros, and the zero constant
unfoldable pub zeros : ℕ → List ℕ
zeros n = fill n (λ i j. 0)

-- the closing sum: what 6t - 1 steps make of an all-zero key
unfoldable pub closing_sum : ℕ → List ℕ
closing_sum t = stage t (zeros (2 * t)) (6 * t - 1)

-- the constant of step s, which leads from stage s - 1 to stage s modulo 6t: constant s for s from 1 to 6t - 1, the closing sum for 6t, and the
-- zero constant for 0 and above 6t
unfoldable pub step_constant : ℕ → ℕ → List ℕ
step_constant t s = cond (ltb 0 s && ltb s (turn t)) (constant t s) (cond (eqb s (turn t)) (closing_sum t) (zeros (2 * t)))

-- step s forward: the stage after it, where k is the stage before it. Paper 000, section 3.7, adds the closing sum after the linear step; document 01
-- decides
unfoldable pub stage_after : ℕ → ℕ → List ℕ → List ℕ
stage_after t s k = linear_step (2 * t) (plus (2 * t) k (step_constant t s))

-- step s undone: the stage before it, where k is the stage after it
unfoldable pub stage_before : ℕ → ℕ → List ℕ → List ℕ
stage_before t s k = plus (2 * t) (inverse_step (2 * t) k) (step_constant t s)

-- row i of a subkey's column, where the stage has the column x y z: the S-box on row 0 only
abbrev pub subkey_byte : ℕ → ℕ → ℕ → ℕ → ℕ
subkey_byte i x y z = by_row i (sbox x) y z

-- a subkey: the first four columns of a stage
abbrev pub subkey_of : List ℕ → State
subkey_of k = build (λ i j. subkey_byte i (cell k 0 j) (cell k 1 j) (cell k 2 j))
