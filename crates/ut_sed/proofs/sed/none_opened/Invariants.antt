use Rattle.std.proofs.Common.{◌≡◌, ◌++◌, drop}
use Rattle.ut_sed.specs.Commands.{commands_of}
use Rattle.ut_sed.specs.Editing.{none_opened}
use Rattle.ut_sed.proofs.sed.none_opened.Given as goal

abbrev pub invariant-commands : goal.invariant-commands
invariant-commands l = l.opened.items ++ none_opened (commands_of (drop l._command-index l.commands)) ≡ none_opened (commands_of l.commands)
