-- `roll_bytes::count_in` meets its contract.
use mathlib.Core.Path.{sym}
use Rattle.roll_bytes.proofs.Entries.{count_short}
use Rattle.roll_bytes.proofs.count_in.Goals as goal

pub returns-then-bytes-at : goal.returns-then-bytes-at
returns-then-bytes-at c = sym (count_short c.args.bytes.now c.args.before c.if-bytes-at.true)
