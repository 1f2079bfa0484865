use Rattle.sh_compound.proofs.ByKind.{loop_begun}
use Rattle.sh_compound.proofs.compounds.act_loop.Goals as goal

pub returns-clause-talk : goal.returns-clause-talk
returns-clause-talk c =
    λ k e p. loop_begun c.args.kind c.args.condition.now.value c.args.body.now.value c.in_ok-condition.condition c.in_ok-body.body c.args.place k e p c.in_ok-condition.ensures.cases c.in_ok-body.ensures.cases
