use Rattle.std.proofs.Common.{◌≡◌, ◌++◌, drop}
use Rattle.ut_find.specs.Finds.{entries}
use Rattle.ut_find.proofs.walk.entries.Given as goal

abbrev pub invariant-names : goal.invariant-names
invariant-names l = l.visits.items ++ entries l.path (drop l.name-index l.names) ≡ entries l.path l.names
