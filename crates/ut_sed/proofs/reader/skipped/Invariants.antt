use Rattle.std.proofs.Common.{◌≡◌, length}
use Rattle.ut_sed.specs.Scripts.{skipped}
use Rattle.ut_sed.proofs.reader.skipped.Given as goal

abbrev pub invariant-blanks : goal.invariant-blanks
invariant-blanks l = skipped l.rest ≡ skipped l.text

abbrev pub decreases-blanks : goal.decreases-blanks
decreases-blanks l = length l.rest
