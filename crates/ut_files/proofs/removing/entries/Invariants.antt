use Rattle.std.proofs.Common.{◌≡◌, ◌++◌, drop}
use Rattle.ut_files.specs.Removing.{entries}
use Rattle.ut_files.proofs.removing.entries.Given as goal

abbrev pub invariant-names : goal.invariant-names
invariant-names l = l.steps.items ++ entries l.manner l.operand (drop l.name-index l.names) ≡ entries l.manner l.operand l.names
