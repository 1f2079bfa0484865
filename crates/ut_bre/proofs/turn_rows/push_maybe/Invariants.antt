use Rattle.std.specs.Prelude.{Some}
use Rattle.ut_bre.specs.Picking.{MatchesTurn}
use Rattle.ut_bre.specs.Rows.{AreFound}
use Rattle.ut_bre.specs.Trees.{tree_of}
use Rattle.ut_bre.proofs.RowLemmas.{turns_left}
use Rattle.ut_bre.proofs.turn_rows.push_maybe.Given as goal

abbrev pub invariant-turns : goal.invariant-turns
invariant-turns l = AreFound (MatchesTurn l.line (tree_of l.item)) l.span.start l.span.end (turns_left 0 (Some l.counter)) l.bottom l.rows.items
