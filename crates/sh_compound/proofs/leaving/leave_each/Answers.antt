use Rattle.std.proofs.Common.{ap, ◌∙◌}
use Rattle.sh_means.specs.declared.control.Continuation.TheVariants as continuation
use Rattle.sh_means.specs.declared.flow.Flow.{Flow}
use Rattle.sh_means.specs.declared.flow.Flow.TheVariants.{Continues}
use Rattle.sh_means.specs.Stack.{continued}
use Rattle.sh_compound.proofs.leaving.leave_each.Goals as goal

pub returns-in-Normal-clause-talk : goal.returns-in-Normal-clause-talk
returns-in-Normal-clause-talk c =
    λ k e p. ap (λ (f : Flow). continued (continuation.Each c.args.place c.args.each) k f e p) c.in-Normal.is

pub returns-then-n-eq0-clause-talk : goal.returns-then-n-eq0-clause-talk
returns-then-n-eq0-clause-talk c =
    λ k e p. ap (λ (f : Flow). continued (continuation.Each c.args.place c.args.each) k f e p) c.in-Continues.is
    ∙ ap (λ n. continued (continuation.Each c.args.place c.args.each) k (Continues n) e p) c.if-n-eq0.true
