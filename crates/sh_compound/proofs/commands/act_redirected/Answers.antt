use Rattle.std.proofs.Common.{◌∙◌}
use Rattle.sh_means.specs.Views.{shell_of}
use Rattle.sh_compound.proofs.Entered.{compound_entered}
use Rattle.sh_compound.proofs.commands.act_redirected.Goals as goal

pub returns-clause-talk : goal.returns-clause-talk
returns-clause-talk c =
    λ k p. compound_entered c.args.redirects.now.value c.args.body.now.value c.in_ok-redirects.redirects c.in_ok-body.body c.in_ok-before.before c.args.place k (shell_of c.args.state.now) p c.in_ok-redirects.ensures.cases c.in_ok-body.ensures.cases c.in_ok-before.ensures.cases ∙ c.paid.ensures.talk k (shell_of c.args.state.now) p
