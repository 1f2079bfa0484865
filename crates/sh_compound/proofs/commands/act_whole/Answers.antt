use Rattle.std.proofs.Common.{◌∙◌}
use Rattle.sh_means.specs.Stack.{context}
use Rattle.sh_means.specs.Views.{shell_of}
use Rattle.sh_compound.proofs.Entered.{whole_begun}
use Rattle.sh_compound.proofs.commands.act_whole.Goals as goal

pub returns-clause-talk : goal.returns-clause-talk
returns-clause-talk c =
    λ p. whole_begun c.args.list.value c.deref.result.now c.args.place (context c.args.shell.now.stack.items) (shell_of c.args.shell.now.state) (shell_of c.clear_if_empty.new.state) p c.deref.ensures c.clear_if_empty.ensures
    ∙ c.in_ok-acted.ensures.talk p
