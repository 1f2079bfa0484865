use Rattle.std.proofs.Common.{◌≡◌, ◌++◌, drop}
use Rattle.ut_sed.specs.Starts.{sources_of}
use Rattle.ut_sed.proofs.start.sources_of.Given as goal

abbrev pub invariant-given : goal.invariant-given
invariant-given l = l.sources.items ++ sources_of (drop l.one-index l.given) ≡ sources_of l.given
