-- The stage numbers as a cycle: document 01, "Key stages". Step s + 1 leads forward from stage s to the stage after it, and from 6t - 1 to 0; the same
-- step, undone, leads back.
use Rattle.std.specs.Prelude.{cond, ℕ, zero, suc, ◌-◌, ltb}
use Rattle.sizes.specs.Sizes.{turn}

-- the number after s, and the number before it
unfoldable pub following : ℕ → ℕ → ℕ
following t s = cond (ltb (suc s) (turn t)) (suc s) 0

unfoldable pub preceding : ℕ → ℕ → ℕ
preceding t zero = turn t - 1
preceding t (suc s) = s
