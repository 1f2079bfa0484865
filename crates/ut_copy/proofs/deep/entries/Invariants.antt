use Rattle.std.proofs.Common.{◌≡◌, ◌++◌, drop}
use Rattle.ut_copy.specs.Deep.{entries}
use Rattle.ut_copy.proofs.deep.entries.Given as goal

abbrev pub invariant-names : goal.invariant-names
invariant-names l = l.steps.items ++ entries l.pair (drop l.name-index l.names) ≡ entries l.pair l.names
