use Rattle.std.proofs.Common.{ap, ◌∙◌}
use Rattle.sh_token.specs.Bytes.{is_name}
use Rattle.sh_token.specs.Folded.{run}
use Rattle.sh_token.proofs.brackets.class_name.Goals as goal

pub returns-clause-count : goal.returns-clause-count
returns-clause-count c = c.run.ensures.count ∙ ap (λ xs. run is_name xs) c.skip-behind.ensures.read
