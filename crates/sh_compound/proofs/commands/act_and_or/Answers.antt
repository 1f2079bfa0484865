use Rattle.std.proofs.Common.{◌∙◌}
use Rattle.sh_means.specs.Stack.{context}
use Rattle.sh_compound.proofs.Entered.{one_entered, more_entered}
use Rattle.sh_compound.proofs.commands.act_and_or.Goals as goal

pub returns-then-is_one-clause-talk : goal.returns-then-is_one-clause-talk
returns-then-is_one-clause-talk c =
    λ e p. one_entered c.args.pipelines.now.value c.in_ok-list.list c.in_ok-rest.rest c.args.connectors.now.value c.in_ok-connectors.connectors c.deref.result.now c.is_one.result c.args.place (context c.args.stack.now.items) (context c.put_continuation.new.stack.items) e p c.in_ok-list.ensures.cases c.in_ok-rest.ensures.cases c.in_ok-connectors.ensures.cases c.deref.ensures c.is_one.ensures c.in_ok-put_continuation.ensures.talk c.if-is_one.true
    ∙ c.paid.ensures.talk (context c.put_continuation.new.stack.items) e p

pub returns-clause-talk : goal.returns-clause-talk
returns-clause-talk c =
    λ e p. more_entered c.args.pipelines.now.value c.in_ok-list.list c.in_ok-rest.rest c.args.connectors.now.value c.in_ok-connectors.connectors c.deref.result.now c.is_one.result c.args.place (context c.args.stack.now.items) (context c.put_continuation.new.stack.items) e p c.in_ok-list.ensures.cases c.in_ok-rest.ensures.cases c.in_ok-connectors.ensures.cases c.deref.ensures c.is_one.ensures c.in_ok-put_continuation.ensures.talk c.if-is_one.false
    ∙ c.paid-2.ensures.talk (context c.put_continuation.new.stack.items) e p
