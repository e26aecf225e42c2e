-- A term of each type of specs/Claims.antt.
use mathlib.Core.Path.{sym, ap, ◌∙◌}
use mathlib.Core.List.{List}
use native.Mathlib.Omega.{arith}
use Rattle.layers.specs.State.{State}
use Rattle.rounds.specs.Rounds.{enciphered, turned}
use Rattle.rounds.specs.Claims.{RestoresBlock, RestoredByList}
use Rattle.rounds.proofs.Turned.{turned-turned, turned_states}
use Rattle.rounds.proofs.Restored.{restored}

pub restores_block : RestoresBlock
unfolding RestoresBlock
restores_block = restored

pub restored_by_list : RestoredByList
unfolding RestoredByList
restored_by_list ks a n h b =
    let r = turned_states ks h in
    ap (λ (l : List State). enciphered l (enciphered (turned ks) a)) (sym (turned-turned ks h))
    ∙ restored (turned ks) a (omega (arith, r.0)) r.1 b
