use Rattle.std.proofs.Common.{◌≡◌, drop}
use Rattle.ut_bre.specs.Trees.{trees_of}
use Rattle.ut_bre.specs.Grouping.{has_groups}
use Rattle.ut_bre.proofs.groups.has_groups.Given as goal

abbrev pub invariant-items : goal.invariant-items
invariant-items l = has_groups (trees_of (drop l.item-index l.items)) ≡ has_groups (trees_of l.items)
