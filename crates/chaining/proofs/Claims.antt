-- A term of each type of specs/Claims.antt.
use Rattle.chaining.specs.Claims.{RestoresBlocks, RestoredByChaining}
use Rattle.chaining.proofs.Restored.{restores, restored_again, by_list}

pub restores_blocks : RestoresBlocks
unfolding RestoresBlocks
restores_blocks ks start bs two all s h = restores (by_list ks two all) start bs s h

pub restored_by_chaining : RestoredByChaining
unfolding RestoredByChaining
restored_by_chaining ks start cs two all s h = restored_again (by_list ks two all) start cs s h
