use Rattle.std.proofs.Common.{◌-◌, List, take, sym, subst}
use Rattle.ut_places.specs.declared.places.Places.{Places}
use Rattle.ut_bre.specs.Trees.{tree_of, trees_of}
use Rattle.ut_bre.specs.Matching.{MatchesItems}
use Rattle.ut_bre.specs.Picking.{MatchesTurn}
use Rattle.ut_bre.specs.Relations.{IsRelation}
use Rattle.ut_bre.proofs.Related.{related-item}
use Rattle.ut_bre.proofs.relation.+relate.Goals as goal

pub relate_items-items-preserved : goal.relate_items-items-preserved
relate_items-items-preserved t c =
    let a = c.args in
    let start = a.span.start in
    let size = a.span.end - a.span.start in
    let rows = c.as_slice-in-items.result.now in
    let table = c.as_slice.result.now in
    let turn = subst (λ (v : List Places). IsRelation (MatchesTurn a.line.now (tree_of c.item-item.result)) start size v) (sym c.as_slice.ensures.value) c.in_ok-turn.ensures in
    let before = subst (λ (v : List Places). IsRelation (MatchesItems a.line.now (trees_of (take c.items.item-index a.items.now))) start size v) (sym c.as_slice-in-items.ensures.value) c.items.invariant in
    related-item a.line.now a.items.now c.items.item-index c.item-item.result start size rows table c.in_ok-table-2.table.items c.times-times.result c.most_in-more.result c.items-test.true c.item-item.is c.times-times.ensures turn c.most_in-more.ensures c.in_ok-table-2.ensures.count c.in_ok-table-2.ensures.leads before
