use Rattle.std.proofs.Common.{take}
use Rattle.ut_bre.specs.Matching.{MatchesItems}
use Rattle.ut_bre.specs.Trees.{trees_of}
use Rattle.ut_bre.specs.Relations.{IsRelation}
use Rattle.ut_bre.proofs.relation.+relate.Given as goal

abbrev pub invariant-relate_items-items : goal.invariant-relate_items-items
invariant-relate_items-items l = IsRelation (MatchesItems l.line (trees_of (take l.item-index l.items))) l.span.start l.size l.table.items
