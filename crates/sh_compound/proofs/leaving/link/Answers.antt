use Rattle.std.proofs.Common.{Bool, ap, ◌∙◌}
use Rattle.sh_compound.specs.Leaving.{linked}
use Rattle.sh_means.specs.Stack.{commands_from}
use Rattle.sh_compound.proofs.leaving.link.Goals as goal

pub returns-then-taken-clause-talk : goal.returns-then-taken-clause-talk
returns-then-taken-clause-talk c =
    λ k e p. ap (λ (b : Bool). linked b (commands_from c.args.list.value c.args.at) c.args.place k e p) c.if-taken.true ∙ c.enter.ensures.talk k e p

pub returns-else-taken-clause-talk : goal.returns-else-taken-clause-talk
returns-else-taken-clause-talk c =
    λ k e p. ap (λ (b : Bool). linked b (commands_from c.args.list.value c.args.at) c.args.place k e p) c.if-taken.false
