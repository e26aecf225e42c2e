-- `queue::answer_queue` meets its contract: the bytes that it writes are the numbers of the single checks.
use mathlib.Core.Path.{refl, sym, ap, ◌∙◌}
use Prim.Native.Nat.{ℕ}
use lib.ListN.{length}
use Rattle.refusal.specs.Tries.{written}
use Rattle.refusal.proofs.Ladder.{all_pass}
use Rattle.key_lists.specs.Claims.{Settings}
use Rattle.queue_parts.proofs.Passed.{queue_passed}
use Rattle.queue.specs.Queue.{queue_answers, queue_tries, queue_output}
use Rattle.queue.proofs.Answered.{all_answered}
use Rattle.queue.proofs.answer_queue.Goals as goal

pub returns : goal.returns
unfolding written queue_output
returns g c =
    let a = c.args in
    let roll = g.R.AsRoll.roll a.roll.now in
    let tries = queue_tries a.key.now a.rounds a.grants.now a.size_block a.right a.answers.now in
    let p = queue_passed (length a.key.now) a.rounds _ _ (length a.answers.now) a.size_block a.right (all_pass tries refl c.requires) in
    let s : Settings a.key.now a.rounds = record { bytes = λ i. (c.type_inv.key i).fits; length_allowed = p.key-length; rounds_are_allowed = p.round-count } in
    all_answered a.key.now a.rounds s roll a.size_block a.right p.asked p.some_block a.grants.now a.answers.now c.fill_for.new.out _ _
    c.fill_for.ensures c.answer_all.ensures
    ∙ ap (λ (n : ℕ). written n (queue_answers a.key.now a.rounds roll a.grants.now a.size_block a.right) a.answers.now) (sym c.requires)
