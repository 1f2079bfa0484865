use Rattle.ut_bre.specs.Trees.{tree_of}
use Rattle.ut_bre.proofs.Reached.{Reached}
use Rattle.ut_bre.proofs.rows.latest_open.Given as goal

abbrev pub invariant-places : goal.invariant-places
invariant-places l = Reached l.line (tree_of l.item) l.times l.behind l.span.start l.span.end l.at l.marks.here.items l.best
