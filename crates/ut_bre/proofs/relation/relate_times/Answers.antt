use Rattle.std.proofs.Common.{◌≡◌, ℕ, ◌-◌, List, sym, subst}
use Rattle.ut_places.specs.declared.places.Places.{Places}
use Rattle.ut_bre.specs.Trees.{tree_of}
use Rattle.ut_bre.specs.Picking.{MatchesTurn}
use Rattle.ut_bre.specs.Relations.{IsRelation}
use Rattle.ut_bre.proofs.Related.{related-times}
use Rattle.ut_bre.proofs.relation.relate_times.Goals as goal

pub returns : goal.returns
returns c =
    let a = c.args in
    let start = a.span.start in
    let size = a.span.end - a.span.start in
    let x = tree_of a.item.now in
    let turn = subst (λ (v : List Places). IsRelation (MatchesTurn a.line.now x) start size v) (sym c.as_slice.ensures.value) c.in_ok-turn.ensures in
    let none = subst (λ (v : List Places). (s : ℕ) → IsRelation (λ i j. i ≡ j) s size v) (sym c.as_slice-2.ensures.value) c.in_ok-none.ensures in
    related-times a.line.now x start size c.as_slice-2.result.now c.as_slice.result.now c.in_ok-table.table.items a.times c.most_in-more.result none turn c.most_in-more.ensures c.in_ok-table.ensures.count c.in_ok-table.ensures.leads
