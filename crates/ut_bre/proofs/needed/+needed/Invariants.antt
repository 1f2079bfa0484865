use Rattle.std.proofs.Common.{◌≡◌, drop}
use Rattle.ut_bre.specs.Trees.{trees_of}
use Rattle.ut_bre.specs.Needing.{needed_from, needed}
use Rattle.ut_bre.proofs.needed.+needed.Given as goal

abbrev pub invariant-needed-items : goal.invariant-needed-items
invariant-needed-items l = needed_from l.found (trees_of (drop l.item-index l.items)) ≡ needed (trees_of l.items)
