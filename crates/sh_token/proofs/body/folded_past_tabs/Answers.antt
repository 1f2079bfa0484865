use Rattle.std.proofs.Common.{ap, drop, ◌∙◌}
use Rattle.sh_token.specs.Folded.{folded}
use Rattle.sh_token.proofs.body.folded_past_tabs.Goals as goal

pub returns : goal.returns
returns c = c.skip.ensures.read ∙ ap (λ n. drop n (folded c.args.text.now)) c.run.ensures.count
