use Rattle.std.proofs.Common.{◌≡◌}
use Rattle.ut_select.specs.Sets.{misnamed_within, misnamed}
use Rattle.ut_select.proofs.sets.misnamed.Given as goal

abbrev pub invariant-parts : goal.invariant-parts
invariant-parts l = misnamed_within l.left l.rest ≡ misnamed l.text

abbrev pub decreases-parts : goal.decreases-parts
decreases-parts l = l.left
