-- `diffusion::diffuse` meets its contract.
use mathlib.Core.Path.{ap, ◌∙◌}
use borrow.Author.Rules.{rules}
use Rattle.diffusion.specs.Rows.{from_rows}
use Rattle.diffusion.proofs.Rows.{made-diffused}
use Rattle.diffusion.proofs.diffuse.Goals as goal

pub returns : goal.returns
returns c = c.from_rows.ensures ∙ ap from_rows c.diffuse_words.ensures
    ∙ made-diffused c.args.a (record {
      fits₀ = search rules;
      fits₁ = search rules;
      fits₂ = search rules;
      holds₀ = c.row_word-x.ensures;
      holds₁ = c.row_word-y.ensures;
      holds₂ = c.row_word-z.ensures;
    })
