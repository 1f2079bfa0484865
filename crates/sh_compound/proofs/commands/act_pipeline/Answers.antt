use Rattle.std.proofs.Common.{Bool, ap, ◌∙◌}
use Rattle.sh_ast.specs.Commands as tree
use Rattle.sh_means.specs.Compound.{pipeline_means}
use Rattle.sh_means.specs.Eval.{commands_in}
use Rattle.sh_means.specs.Run.{run}
use Rattle.sh_means.specs.Stack.{context}
use Rattle.sh_compound.proofs.Entered.{bang_entered, plain_entered}
use Rattle.sh_compound.proofs.commands.act_pipeline.Goals as goal

pub returns-then-negated-clause-talk : goal.returns-then-negated-clause-talk
returns-then-negated-clause-talk c =
    let k = context c.args.stack.now.items in
    λ e p. ap (λ (b : Bool). pipeline_means b (commands_in run (tree.commands c.args.commands.now.value)) c.args.place e k p) c.if-negated.true
    ∙ bang_entered c.args.commands.now.value c.in_ok-commands.commands c.pipe.result c.args.place k (context c.put_continuation.new.stack.items) e p c.in_ok-commands.ensures.cases c.in_ok-put_continuation.ensures.talk c.pipe.ensures ∙ c.paid.ensures.talk (context c.put_continuation.new.stack.items) e p

pub returns-clause-talk : goal.returns-clause-talk
returns-clause-talk c =
    let k = context c.args.stack.now.items in
    λ e p. ap (λ (b : Bool). pipeline_means b (commands_in run (tree.commands c.args.commands.now.value)) c.args.place e k p) c.if-negated.false
    ∙ plain_entered c.args.commands.now.value c.in_ok-commands.commands c.pipe-2.result c.args.place k (context c.put_continuation-2.new.stack.items) e p c.in_ok-commands.ensures.cases c.in_ok-put_continuation-2.ensures.talk c.pipe-2.ensures ∙ c.paid-2.ensures.talk (context c.put_continuation-2.new.stack.items) e p
