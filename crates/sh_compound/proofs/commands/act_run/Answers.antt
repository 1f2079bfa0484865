use Rattle.std.proofs.Common.{◌<◌, ◌∙◌, arith}
use Rattle.sh_ast.specs.Commands as tree
use Rattle.sh_means.specs.Stack.{context}
use Rattle.sh_means.specs.Views.{shell_of}
use Rattle.sh_means.proofs.Bounds.{command_small}
use Rattle.sh_compound.proofs.Entered.{run_begun, run_ended}
use Rattle.sh_compound.proofs.commands.act_run.Goals as goal

pub overflow_add-next : goal.overflow_add-next
overflow_add-next c = let small : c.args.at < 9223372036854775808 = command_small c.deref.result.now c.args.at _ c.in-Some.ensures in omega arith

pub returns-in-Some-clause-talk : goal.returns-in-Some-clause-talk
returns-in-Some-clause-talk c =
    let k = context c.args.shell.now.stack.items in
    λ p. run_begun c.args.list c.in_ok-rest.rest c.deref.result.now (tree.command c.in-Some.command.now) c.args.at c.args.place k (context c.put_continuation.new.stack.items) (shell_of c.args.shell.now.state) p c.deref.ensures c.in-Some.ensures c.in_ok-rest.ensures.cases c.in_ok-put_continuation-in-Some.ensures.talk ∙ c.in_ok-acted-in-Some.ensures.talk p

pub returns-clause-talk : goal.returns-clause-talk
returns-clause-talk c =
    let k = context c.args.shell.now.stack.items in
    λ p. run_ended c.args.list.value c.deref.result.now c.args.at c.args.place k (shell_of c.args.shell.now.state) p c.deref.ensures c.in-None.ensures ∙ c.free.ensures.talk k (shell_of c.args.shell.now.state) p

pub returns-in-Some-clause-costly : goal.returns-in-Some-clause-costly
returns-in-Some-clause-costly c = λ m le. c.in_ok-acted-in-Some.ensures.costly m _

pub returns-clause-costly : goal.returns-clause-costly
returns-clause-costly c = λ m le. c.free.ensures.costly m _ (omega arith)
