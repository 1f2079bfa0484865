use Rattle.std.proofs.Common.{◌≡◌, ◌++◌, drop}
use Rattle.ut_files.specs.Linking.{links}
use Rattle.ut_files.proofs.linking.links.Given as goal

abbrev pub invariant-sources : goal.invariant-sources
invariant-sources l = l.steps.items ++ links l.manner l.aim l.target (drop l.source-index l.sources) ≡ links l.manner l.aim l.target l.sources
