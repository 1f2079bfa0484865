use Rattle.std.proofs.Common.{◌≡◌, ◌≤◌, length, drop}
use Rattle.ut_bre.specs.Trees.{trees_of}
use Rattle.ut_bre.specs.Starting.{starts}
use Rattle.ut_bre.proofs.starts.+starts.Given as goal

abbrev pub invariant-starts-items : goal.invariant-starts-items
invariant-starts-items l = record { within : l.at ≤ length l.items; told : l.on ≡ starts (trees_of (drop l.at l.items)) l.behind l.b }

abbrev pub decreases-starts-items : goal.decreases-starts-items
decreases-starts-items l = l.at
