use Rattle.sh_ast.specs.Commands as tree
use Rattle.sh_means.specs.Views.{shell_of}
use Rattle.sh_compound.proofs.Entered.{cleared_some, cleared_none}
use Rattle.sh_compound.proofs.commands.clear_if_empty.Goals as goal

pub returns-in-Some : goal.returns-in-Some
returns-in-Some c = cleared_some (tree.commands c.args.list.now) _ (shell_of c.args.state.now) c.in-Some.ensures

pub returns-in-None : goal.returns-in-None
returns-in-None c = cleared_none (tree.commands c.args.list.now) (shell_of c.args.state.now) c.in-None.ensures
