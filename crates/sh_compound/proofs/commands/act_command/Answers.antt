use Rattle.std.proofs.Common.{ap, ◌∙◌}
use Rattle.sh_ast.specs.Commands as tree
use Rattle.sh_ast.specs.declared.command.Command.{Command}
use Rattle.sh_means.specs.Eval.{command_in}
use Rattle.sh_means.specs.Run.{run}
use Rattle.sh_means.specs.Stack.{context}
use Rattle.sh_means.specs.Views.{shell_of}
use Rattle.sh_means.proofs.Folding.{a_simple_is, a_compound_is, a_function_is, a_pipeline_is, an_and_or_is}
use Rattle.sh_compound.proofs.commands.act_command.Goals as goal

pub returns-in_ok-acted-in-Simple-clause-talk : goal.returns-in_ok-acted-in-Simple-clause-talk
returns-in_ok-acted-in-Simple-clause-talk c =
    λ p. ap (λ (t : tree.CommandTree). command_in run t c.args.place (shell_of c.args.shell.now.state) (context c.args.shell.now.stack.items) p) (ap (λ (x : Command). tree.command x) c.in-Simple.is ∙ a_simple_is c.in-Simple.command)
    ∙ c.in_ok-acted-in-Simple.ensures.talk (context c.args.shell.now.stack.items) p

pub returns-in_ok-acted-in-Compound-clause-talk : goal.returns-in_ok-acted-in-Compound-clause-talk
returns-in_ok-acted-in-Compound-clause-talk c =
    λ p. ap (λ (t : tree.CommandTree). command_in run t c.args.place (shell_of c.args.shell.now.state) (context c.args.shell.now.stack.items) p) (ap (λ (x : Command). tree.command x) c.in-Compound.is ∙ a_compound_is c.in-Compound.body c.in-Compound.redirects)
    ∙ c.in_ok-acted-in-Compound.ensures.talk (context c.args.shell.now.stack.items) p

pub returns-in_ok-acted-in-Function-clause-talk : goal.returns-in_ok-acted-in-Function-clause-talk
returns-in_ok-acted-in-Function-clause-talk c =
    λ p. ap (λ (t : tree.CommandTree). command_in run t c.args.place (shell_of c.args.shell.now.state) (context c.args.shell.now.stack.items) p) (ap (λ (x : Command). tree.command x) c.in-Function.is ∙ a_function_is c.in-Function.name c.in-Function.body c.in-Function.redirects)
    ∙ c.in_ok-acted-in-Function.ensures.talk c.args.place (context c.args.shell.now.stack.items) p

pub returns-in_ok-acted-in-Pipeline-clause-talk : goal.returns-in_ok-acted-in-Pipeline-clause-talk
returns-in_ok-acted-in-Pipeline-clause-talk c =
    λ p. ap (λ (t : tree.CommandTree). command_in run t c.args.place (shell_of c.args.shell.now.state) (context c.args.shell.now.stack.items) p) (ap (λ (x : Command). tree.command x) c.in-Pipeline.is ∙ a_pipeline_is c.in-Pipeline.negated c.in-Pipeline.commands)
    ∙ c.in_ok-acted-in-Pipeline.ensures.talk (shell_of c.args.shell.now.state) p

pub returns-in_ok-acted-in-AndOr-clause-talk : goal.returns-in_ok-acted-in-AndOr-clause-talk
returns-in_ok-acted-in-AndOr-clause-talk c =
    λ p. ap (λ (t : tree.CommandTree). command_in run t c.args.place (shell_of c.args.shell.now.state) (context c.args.shell.now.stack.items) p) (ap (λ (x : Command). tree.command x) c.in-AndOr.is ∙ an_and_or_is c.in-AndOr.pipelines c.in-AndOr.connectors)
    ∙ c.in_ok-acted-in-AndOr.ensures.talk (shell_of c.args.shell.now.state) p
