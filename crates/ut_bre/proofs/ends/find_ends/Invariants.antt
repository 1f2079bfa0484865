use Rattle.std.proofs.Common.{◌≡◌, length}
use Rattle.ut_bre.specs.Trees.{trees_of}
use Rattle.ut_bre.specs.Matching.{MatchesItems}
use Rattle.ut_bre.specs.Ends.{AreEnds}
use Rattle.ut_bre.proofs.Ended.{Backed}
use Rattle.ut_bre.proofs.ends.find_ends.Given as goal

abbrev pub invariant-places : goal.invariant-places
invariant-places l = record {
  count : length l.ends.items ≡ l.far;
  backed : Backed l.line (trees_of l.body) l.span.end l.far l.marks.here.items l.found;
  ends : AreEnds (MatchesItems l.line (trees_of l.body)) l.span.end l.ends.items;
}
