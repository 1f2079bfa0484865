use Rattle.std.proofs.Common.{◌≡◌, ◌++◌, length}
use Rattle.ut_find.proofs.walk.put_before.Given as goal

abbrev pub invariant-visits : goal.invariant-visits
invariant-visits l = l.visits.items ++ l.left.items ≡ l.fn.visits.items ++ l.initial.left.items

abbrev pub decreases-visits : goal.decreases-visits
decreases-visits l = length l.visits.items
