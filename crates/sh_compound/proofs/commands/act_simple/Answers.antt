use Rattle.std.proofs.Common.{ap, ◌∙◌}
use Rattle.sh_ast.specs.declared.command.SimpleCommand.{SimpleCommand, out-SimpleCommand}
use Rattle.sh_means.specs.State.{unsubstituted}
use Rattle.sh_means.specs.Views.{shell_of}
use Rattle.sh_compound.proofs.Entered.{simple_entered}
use Rattle.sh_compound.proofs.commands.act_simple.Goals as goal

pub returns-clause-talk : goal.returns-clause-talk
returns-clause-talk c =
    λ k p. simple_entered c.args.command.now.value c.in_ok-command.command c.in_ok-words.words c.new-fields.result c.args.place k (shell_of c.args.state.now) p c.in_ok-command.ensures.cases
    (c.in_ok-words.ensures.cases ∙ ap (λ (c : SimpleCommand). (out-SimpleCommand c).words.value) (c.deref.ensures ∙ c.in_ok-command.ensures.cases)) (c.new-fields.ensures ∙ c.new.ensures.items) ∙ c.paid.ensures.talk k (unsubstituted (shell_of c.args.state.now)) p
