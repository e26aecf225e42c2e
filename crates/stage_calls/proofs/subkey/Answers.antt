-- `stage_calls::subkey` meets its contract.
use Rattle.refusal.specs.Tries.{first}
use borrow.Author.Rules.{rules}
use Rattle.stage_calls.proofs.subkey.Goals as goal

pub write_state-requires : goal.write_state-requires
unfolding first
write_state-requires c = search rules
