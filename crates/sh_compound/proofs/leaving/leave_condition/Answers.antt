use Rattle.std.proofs.Common.{ap, ◌∙◌}
use Rattle.sh_means.specs.declared.control.Continuation.TheVariants as continuation
use Rattle.sh_means.specs.declared.flow.Flow.{Flow}
use Rattle.sh_means.specs.Stack.{context, continued}
use Rattle.sh_means.specs.Views.{shell_of}
use Rattle.sh_compound.proofs.leaving.leave_condition.Goals as goal

pub returns-in_ok-control-in-Normal-clause-talk : goal.returns-in_ok-control-in-Normal-clause-talk
returns-in_ok-control-in-Normal-clause-talk c =
    λ p. ap (λ (f : Flow). continued (continuation.Condition c.args.place c.args.last c.args.left) (context c.args.shell.now.stack.items) f (shell_of c.args.shell.now.state) p) c.in-Normal.is
    ∙ c.in_ok-control-in-Normal.ensures.talk p
