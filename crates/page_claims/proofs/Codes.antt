-- The C call's number: what is read from it.
use mathlib.Core.Path.{◌≡◌}
use Prim.Native.Nat.{ℕ, ◌/◌, ◌%◌, ◌≤◌, ◌<◌}
use native.Mathlib.Omega.{arith}
use Rattle.open_call.specs.OpenCall.{header_code}

-- the parts of the number, where they fit
module _ (block number used : ℕ) (hb : block < 4294967296) (hn : number < 65536) (hu : used < 32768) where
  pub code_block : header_code block number used % 4294967296 ≡ block
  code_block = omega arith

  pub code-number : header_code block number used / 4294967296 % 65536 ≡ number
  code-number = omega arith

  pub code-used : header_code block number used / 281474976710656 % 32768 ≡ used
  code-used = omega arith

pub code-most : (block number used : ℕ) → 9223372036854775808 ≤ header_code block number used
code-most block number used = omega arith
