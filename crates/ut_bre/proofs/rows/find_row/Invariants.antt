use Rattle.ut_bre.specs.Trees.{tree_of}
use Rattle.ut_bre.proofs.Rowed.{Rowed}
use Rattle.ut_bre.proofs.rows.find_row.Given as goal

abbrev pub invariant-places : goal.invariant-places
invariant-places l = Rowed l.line (tree_of l.item) l.times l.behind l.span.end l.far l.marks.here.items l.row
