use Rattle.sh_means.specs.Stack.{context}
use Rattle.sh_means.specs.Views.{shell_of}
use Rattle.sh_compound.proofs.Looping.{loop_entered, loop_over}
use Rattle.std.proofs.Common.{arith}
use Rattle.sh_compound.proofs.leaving.enter_body.Goals as goal

pub returns-then-goes_on-clause-talk : goal.returns-then-goes_on-clause-talk
returns-then-goes_on-clause-talk c =
    λ p. loop_entered c.args.left c.args.last c.goes_on.result c.deeper-below.result c.in_ok-body.body c.args.place (context c.args.shell.now.stack.items) (context c.put_continuation.new.stack.items) (shell_of c.args.shell.now.state) p c.goes_on.ensures c.if-goes_on.true c.in_ok-body.ensures.cases c.deeper-below.ensures c.in_ok-put_continuation.ensures.talk

pub returns-clause-talk : goal.returns-clause-talk
returns-clause-talk c =
    λ p. loop_over c.args.left c.args.last c.goes_on.result c.args.place (context c.args.shell.now.stack.items) (shell_of c.args.shell.now.state) p c.goes_on.ensures c.if-goes_on.false

pub returns-then-goes_on-clause-weight : goal.returns-then-goes_on-clause-weight
returns-then-goes_on-clause-weight c = omega (arith, c.in_ok-put_continuation.ensures.weight)
