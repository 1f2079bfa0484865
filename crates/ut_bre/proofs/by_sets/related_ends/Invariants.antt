use Rattle.std.proofs.Common.{◌≡◌, ◌+◌, length}
use Rattle.ut_bre.specs.Ends.{AreEnds}
use Rattle.ut_bre.specs.Matching.{MatchesItems, Repeated}
use Rattle.ut_bre.specs.Times.{star}
use Rattle.ut_bre.specs.Trees.{trees_of}
use Rattle.ut_bre.proofs.Rowed.{ToldBelow}
use Rattle.ut_bre.proofs.by_sets.related_ends.Given as goal

abbrev pub invariant-places : goal.invariant-places
invariant-places l = record {
  count : length l.ends.items ≡ l.far;
  ends : AreEnds (MatchesItems l.fn.line (trees_of l.fn.body)) l.fn.span.end l.ends.items;
  size : length l.row ≡ l.far + 1;
  told : ToldBelow (λ i. Repeated (MatchesItems l.fn.line (trees_of l.fn.body)) star i l.fn.span.end) l.fn.span.end (l.far + 1) l.row;
}
