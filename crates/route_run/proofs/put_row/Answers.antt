-- `route_run::put_row` meets its contract.
use mathlib.Core.Path.{refl, sym, ap, ◌∙◌}
use mathlib.Core.List.{List, [], ◌∷◌, ◌++◌}
use Prim.Native.Nat.{ℕ, ◌+◌, ◌%◌}
use native.Mathlib.Omega.{arith}
use lib.ListN.{take, drop}
use Rattle.route_run.specs.Log.{row_of}
use Rattle.block_bytes.proofs.Put.{placed}
use Rattle.route_run.proofs.Put.{three_parts}
use Rattle.route_run.proofs.put_row.Goals as goal

pub put_bytes-requires-2 : goal.put_bytes-requires-2
put_bytes-requires-2 c = omega (arith, c.put_bytes.auto.out, c.requires.1.0)

pub slice_bounds-put_bytes-end-3 : goal.slice_bounds-put_bytes-end-3
slice_bounds-put_bytes-end-3 c = sym c.requires.1.1

pub put_bytes-requires-3 : goal.put_bytes-requires-3
put_bytes-requires-3 c = let pre = c.requires in
    omega (arith, c.put_bytes.auto.out, c.put_bytes-2.auto.out, pre.0, pre.1.1)

pub returns : goal.returns
unfolding row_of placed
returns c =
    let r = c.args.r in
    let at = c.args.at in
    let log = c.args.log.now in
    let head : ℕ → List ℕ = λ w. r.number % 256 ∷ r.steps % 256 ∷ w ∷ r.holder.length % 256 ∷ r.holder.number % 256 ∷ [] in
    three_parts at (head c.way_byte.result) r.subkey r.holder.bytes log _ _ _ (omega arith) refl c.requires.1.0 c.requires.1.1
    c.put_bytes.ensures c.put_bytes-2.ensures c.put_bytes-3.ensures
    ∙ ap (λ (w : ℕ). take at log ++ ((head w ++ (r.subkey ++ r.holder.bytes)) ++ drop (at + 41) log)) c.way_byte.ensures
