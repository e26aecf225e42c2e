-- What a block and an output that were tried have.
use mathlib.Core.Path.{◌≡◌}
use Prim.Native.Nat.{ℕ, ◌≤◌}
use borrow.Author.Tests.{eqb-true, leb-true}
use Rattle.refusal.specs.Tries.{NoneHolds}
use Rattle.engine.specs.Engine.{block_tries}

pub record Block (block room : ℕ) : Type 0 where
  pub twelve : block ≡ 12
  pub fits : 12 ≤ room

pub a_block : (block room : ℕ) → NoneHolds (block_tries block room) → Block block room
a_block block room h = record { twelve = eqb-true block 12 h.0; fits = leb-true 12 room h.1.0 }
