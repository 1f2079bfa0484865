use Rattle.std.proofs.Common.{false, ap, ◌∙◌}
use Rattle.sh_token.specs.Lexemes.{extent}
use Rattle.sh_token.proofs.extents.tabs_extent.Goals as goal

pub returns-clause-count : goal.returns-clause-count
returns-clause-count c = c.extent.ensures.count ∙ ap (λ n. extent false n c.args.text.now) c.run-n.ensures.count
