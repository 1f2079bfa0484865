use Rattle.std.proofs.Common.{◌≡◌, length}
use Rattle.ut_sed.specs.Gathering.{goes_on}
use Rattle.ut_sed.proofs.gatherer.read_next.Given as goal

abbrev pub invariant-sources : goal.invariant-sources
invariant-sources l = goes_on l.gathered ≡ goes_on l.initial.gathered

abbrev pub decreases-sources : goal.decreases-sources
decreases-sources l = length l.gathered.sources.items
