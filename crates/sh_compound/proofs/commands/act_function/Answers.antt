use Rattle.std.proofs.Common.{◌∙◌}
use Rattle.sh_means.specs.Views.{shell_of}
use Rattle.sh_compound.proofs.Entered.{function_defined}
use Rattle.sh_compound.proofs.commands.act_function.Goals as goal

pub returns-clause-talk : goal.returns-clause-talk
returns-clause-talk c =
    λ pl k p. function_defined c.args.name.now c.as_slice.result.now c.args.body.now.value c.in_ok-body.body c.args.redirects.now.value c.in_ok-redirects.redirects pl k (shell_of c.args.state.now) (shell_of c.define.new.self) p c.as_slice.ensures c.in_ok-body.ensures.cases c.in_ok-redirects.ensures.cases c.in_ok-define.ensures
    ∙ c.paid.ensures.talk k _ p
