use Rattle.sh_means.specs.Stack.{context}
use Rattle.sh_means.specs.Views.{shell_of}
use Rattle.sh_compound.proofs.Branching.{stage_begun}
use Rattle.std.proofs.Common.{arith}
use Rattle.sh_compound.proofs.compounds.act_stage.Goals as goal

pub returns-clause-talk : goal.returns-clause-talk
returns-clause-talk c =
    λ p. stage_begun c.args.stage.list c.in_ok-rest.rest c.args.stage.at c.args.stage.next c.in_ok-saved.saved c.args.stage.input c.args.stage.read_end c.number_after-write_end.result c.args.place (context c.args.shell.now.stack.items) (context c.put_continuation.new.stack.items) (shell_of c.args.shell.now.state) (shell_of c.read_from.new.state) _ p c.in_ok-rest.ensures.cases c.in_ok-saved.ensures c.number_after-write_end.ensures c.in_ok-put_continuation.ensures.talk c.in_ok-read_from.ensures c.in_ok-set_descriptor.ensures

pub returns-clause-weight : goal.returns-clause-weight
returns-clause-weight c = omega (arith, c.in_ok-put_continuation.ensures.weight)
