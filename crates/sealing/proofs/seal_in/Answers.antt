-- `sealing::seal_in` meets its contract.
use mathlib.Core.Path.{refl, ap, ◌∙◌}
use Prim.Native.Nat.{ℕ}
use lib.ListN.{length, drop, replicate}
use Rattle.pages.specs.Pages.{header, page_of, cleared}
use Rattle.pages.specs.Keyed.{enciphering}
use Rattle.sealing.specs.Sealing.{sealed}
use Rattle.page_steps.proofs.Made.{made-page}
use Rattle.sealing.proofs.seal_in.Goals as goal

pub returns : goal.returns
unfolding sealed page_of cleared
returns c =
    let a = c.args in
    let payload = a.payload.now in
    record {
      out_after = made-page (enciphering a.first_key.now a.rounds) (enciphering a.second_key.now a.rounds)
          (header a.size_block a.page_number (length payload)) payload (drop 504 a.out.now) refl c.requires.fits _ _ _
          c.lay_out.ensures c.chain_payload.ensures.out_after c.put_check.ensures.out_after;
      scratch_after = c.clear.ensures ∙ ap (λ (n : ℕ). replicate n 0) (c.put_check.ensures.room_len_unchanged
          ∙ c.chain_payload.ensures.room_len_unchanged ∙ c.requires.scratch);
    }
