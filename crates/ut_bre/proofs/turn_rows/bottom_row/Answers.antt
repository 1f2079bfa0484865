use Rattle.std.proofs.Common.{ℕ, sym, subst}
use Rattle.std.specs.Prelude.{Option}
use Rattle.ut_bre.specs.declared.tree.Times.{Times}
use Rattle.ut_bre.specs.Matching.{Repeated}
use Rattle.ut_bre.specs.Picking.{MatchesTurn}
use Rattle.ut_bre.specs.Rows.{IsRow, TellsWhere, behind_counted}
use Rattle.ut_bre.specs.Trees.{tree_of}
use Rattle.ut_bre.proofs.RowLemmas.{none-row, star-row}
use Rattle.ut_bre.proofs.turn_rows.bottom_row.Goals as goal

pub returns-in-Some : goal.returns-in-Some
returns-in-Some c =
    let a = c.args in
    let R = MatchesTurn a.line.now (tree_of a.item.now) in
    subst (λ (o : Option ℕ). TellsWhere (λ i. Repeated R (behind_counted o) i a.span.end) a.span.start a.span.end c.in_ok-none.none) (sym c.in-Some.is) (none-row R a.span.start a.span.end c.in_ok-none.none c.in_ok-none.ensures)

pub returns-in_ok-star-in-None : goal.returns-in_ok-star-in-None
returns-in_ok-star-in-None c =
    let a = c.args in
    let x = tree_of a.item.now in
    let R = MatchesTurn a.line.now x in
    let row = c.in_ok-star-in-None.star in
    let ends = subst (λ (t : Times). IsRow (Repeated R t) c.in_ok-none.none a.span.start a.span.end row) c.any.ensures c.in_ok-star-in-None.ensures in
    subst (λ (o : Option ℕ). TellsWhere (λ i. Repeated R (behind_counted o) i a.span.end) a.span.start a.span.end row) (sym c.in-None.is) (star-row a.line.now x a.span.start a.span.end c.in_ok-none.none row c.in_ok-none.ensures ends)
