use Rattle.std.proofs.Common.{◌≡◌, length}
use Rattle.ut_sed.specs.Changing.{image}
use Rattle.ut_sed.proofs.change.image.Given as goal

abbrev pub invariant-bytes : goal.invariant-bytes
invariant-bytes l = image l.b l.left l.right ≡ image l.b l.from l.to

abbrev pub decreases-bytes : goal.decreases-bytes
decreases-bytes l = length l.left
