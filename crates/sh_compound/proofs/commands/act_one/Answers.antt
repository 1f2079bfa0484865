use Rattle.std.proofs.Common.{◌∙◌, arith}
use Rattle.sh_ast.specs.Commands as tree
use Rattle.sh_means.specs.Stack.{context}
use Rattle.sh_means.specs.Views.{shell_of}
use Rattle.sh_compound.proofs.Entered.{first_some, first_none}
use Rattle.sh_compound.proofs.commands.act_one.Goals as goal

pub returns-in_ok-acted-in-Some-clause-talk : goal.returns-in_ok-acted-in-Some-clause-talk
returns-in_ok-acted-in-Some-clause-talk c =
    λ p. first_some c.args.list.now (tree.command c.in-Some.command.now) c.args.at c.args.place (context c.args.shell.now.stack.items) (shell_of c.args.shell.now.state) p c.in-Some.ensures ∙ c.in_ok-acted-in-Some.ensures.talk p

pub returns-in-None-clause-talk : goal.returns-in-None-clause-talk
returns-in-None-clause-talk c =
    let k = context c.args.shell.now.stack.items in
    λ p. first_none c.args.list.now c.args.at c.args.place k (shell_of c.args.shell.now.state) p c.in-None.ensures ∙ c.free.ensures.talk k (shell_of c.args.shell.now.state) p

pub returns-in_ok-acted-in-Some-clause-costly : goal.returns-in_ok-acted-in-Some-clause-costly
returns-in_ok-acted-in-Some-clause-costly c = λ m le. c.in_ok-acted-in-Some.ensures.costly m _

pub returns-in-None-clause-costly : goal.returns-in-None-clause-costly
returns-in-None-clause-costly c = λ m le. c.free.ensures.costly m _ (omega arith)
