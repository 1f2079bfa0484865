use Rattle.std.proofs.Common.{ap}
use Rattle.sh_builtin.specs.Commands.{alone}
use Rattle.sh_builtin.specs.Action.{Action}
use Rattle.sh_builtin.proofs.command.BuiltinCommand.new.Goals as goal

pub returns : goal.returns
returns c = ap (λ (x : Action). alone x c.args.env) c.in_ok-builtin.ensures
