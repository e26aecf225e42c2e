-- What the C call that walks a lent key holder returns and writes: what a walk by value does, on the holder that the lent bytes hold.
use Rattle.std.specs.Prelude.{List, ℕ, ◌+◌}
use Rattle.refusal.specs.Tries.{written, answered}
use Rattle.holder.specs.declared.Way.{Way}
use Rattle.holder.specs.declared.Way.TheVariants.{Forward, Back}
use Rattle.holder_walk.specs.Walk.{walk_number, walk_holder, walk_steps, walk_way}
use Rattle.holder_bytes.specs.HolderBytes.{holder_of, holder_bytes}

-- ---- walk to stage d: 24, 5
-- a walk's answer as a number: the refusal number, or the steps plus 1,000 for forward and 2,000 for back
abbrev pub way_code : Way → ℕ
way_code Forward = 1000
way_code Back = 2000

abbrev pub walk_code : ℕ → ℕ → Way → ℕ
walk_code n steps way = answered n (way_code way + steps) n

unfoldable pub walk_call_code : List ℕ → ℕ → ℕ
walk_call_code lent d = walk_code (walk_number (holder_of lent) d) (walk_steps (holder_of lent) d) (walk_way (holder_of lent) d)

unfoldable pub walk_call_holder : List ℕ → ℕ → List ℕ
walk_call_holder lent d = written (walk_number (holder_of lent) d) (holder_bytes (walk_holder (holder_of lent) d)) lent
