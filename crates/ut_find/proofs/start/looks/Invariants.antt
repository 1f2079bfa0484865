use Rattle.std.proofs.Common.{◌≡◌, ◌++◌, drop, map}
use Rattle.ut_find.specs.declared.find.Visit.TheVariants.{Look}
use Rattle.ut_find.proofs.start.looks.Given as goal

abbrev pub invariant-paths : goal.invariant-paths
invariant-paths l = l.visits.items ++ map Look (drop l.path-index l.paths) ≡ map Look l.paths
