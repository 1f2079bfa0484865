use Rattle.std.proofs.Common.{ap, ◌∙◌, arith}
use Rattle.sh_means.specs.declared.control.Continuation.TheVariants as continuation
use Rattle.sh_means.specs.Stack.{context, continued}
use Rattle.sh_compound.proofs.Looping.{each_entered}
use Rattle.sh_compound.proofs.compounds.enter_body.Goals as goal

pub returns-clause-talk : goal.returns-clause-talk
returns-clause-talk c =
    λ e p. each_entered c.args.each c.deeper-below.result c.in_ok-body.body c.args.place (context c.args.stack.now.items) (context c.put_continuation.new.stack.items) e p c.in_ok-body.ensures.cases c.deeper-below.ensures (c.in_ok-put_continuation.ensures.talk ∙ ap (λ n. continued (continuation.Each c.args.place (record c.args.each { at = n })) (context c.args.stack.now.items)) c.requires)

pub returns-clause-weight : goal.returns-clause-weight
returns-clause-weight c = omega (arith, c.in_ok-put_continuation.ensures.weight)
