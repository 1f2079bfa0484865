use Rattle.std.proofs.Common.{◌≡◌, ◌++◌}
use Rattle.ut_select.specs.Sets.{set_within, set_of}
use Rattle.ut_select.proofs.sets.set_of.Given as goal

abbrev pub invariant-items : goal.invariant-items
invariant-items l = l.set.items ++ set_within l.left l.rest ≡ set_of l.text

abbrev pub decreases-items : goal.decreases-items
decreases-items l = l.left
