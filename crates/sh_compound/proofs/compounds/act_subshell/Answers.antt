use Rattle.sh_means.specs.Stack.{context}
use Rattle.sh_means.specs.Views.{shell_of}
use Rattle.sh_compound.proofs.ByKind.{subshell_entered}
use Rattle.std.proofs.Common.{arith}
use Rattle.sh_compound.proofs.compounds.act_subshell.Goals as goal

pub returns-clause-talk : goal.returns-clause-talk
returns-clause-talk c =
    λ p. subshell_entered c.args.list.now.value c.in_ok-list.list c.in_ok-saved.saved c.args.place (context c.args.shell.now.stack.items) (context c.put_continuation.new.stack.items) (context c.put_undo.new.stack.items) (shell_of c.args.shell.now.state) p c.in_ok-list.ensures.cases c.in_ok-saved.ensures c.in_ok-put_continuation.ensures.talk c.in_ok-put_undo.ensures.talk

pub returns-clause-weight : goal.returns-clause-weight
returns-clause-weight c = omega (arith, c.in_ok-put_continuation.ensures.weight, c.in_ok-put_undo.ensures.weight)
