use Rattle.std.proofs.Common.{◌≡◌}
use Rattle.ut_sed.specs.Commands.{commands_of}
use Rattle.ut_sed.specs.Scripts.{commands_from, script_after}
use Rattle.ut_sed.proofs.reader.read_script.Given as goal

abbrev pub invariant-commands : goal.invariant-commands
invariant-commands l = commands_from l.left (commands_of l.commands.items) l.reader.rest.now ≡ script_after (commands_of l.initial.commands.items) l.text

abbrev pub decreases-commands : goal.decreases-commands
decreases-commands l = l.left
