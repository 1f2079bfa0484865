use Rattle.std.proofs.Common.{◌∙◌}
use Rattle.sh_means.specs.Stack.{context}
use Rattle.sh_means.proofs.Calling.{round_entered}
use Rattle.sh_compound.proofs.compounds.act_round.Goals as goal

pub returns-clause-talk : goal.returns-clause-talk
returns-clause-talk c =
    λ e p. round_entered c.args.left c.in_ok-condition.condition c.deeper-below.result c.args.last c.args.place (context c.args.stack.now.items) (context c.put_continuation.new.stack.items) e p c.in_ok-condition.ensures.cases c.deeper-below.ensures c.in_ok-put_continuation.ensures.talk
    ∙ c.paid.ensures.talk (context c.put_continuation.new.stack.items) e p
