-- `roll_bytes::figure_in` meets its contract.
use Rattle.std.proofs.Common.{rules}
use Rattle.roll_bytes.proofs.Entries.{figure_read}
use Rattle.roll_bytes.proofs.figure_in.Goals as goal

pub returns : goal.returns
returns c = rw (figure_read c.args.bytes.now c.args.before) (search rules)
