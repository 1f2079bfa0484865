use Rattle.std.proofs.Common.{◌≡◌, ◌+◌, ◌-◌, ◌<◌, ◌≤◌, length, slice_get, sym, ap, ◌∙◌, subst, arith}
use Rattle.std.specs.Prelude.{Some}
use Rattle.ut_places.proofs.StepLemmas.{at-some}
use Rattle.ut_bre.specs.Trees.{tree_of}
use Rattle.ut_bre.specs.Matching.{Repeated}
use Rattle.ut_bre.specs.Picking.{MatchesTurn, IsLatest}
use Rattle.ut_bre.specs.Rows.{ReachesOpen}
use Rattle.ut_bre.specs.Relations.{OpensAt}
use Rattle.ut_bre.proofs.Turning.{turn-ordered}
use Rattle.ut_bre.proofs.Related.{repeated-ordered}
use Rattle.ut_bre.proofs.Opened.{open-ahead}
use Rattle.ut_bre.proofs.by_sets.related_open.Goals as goal

pub returns : goal.returns
returns c =
    let a = c.args in
    let start = a.span.start in
    let end = a.span.end in
    let size = end - start in
    let line = a.line.now in
    let order : start ≤ end = c.requires.order in
    let z : start + size ≡ end = omega arith in
    let table = c.in_ok-table.table.items in
    let r = c.in_ok-table.ensures in
    let count : length table ≡ size + 1 = r.count in
    let set = c.index.result.now in
    let x = tree_of a.item.now in
    let R = Repeated (MatchesTurn line x) a.times in
    let inside : 0 < length table = omega arith in
    let at : slice_get table 0 ≡ Some set = at-some table 0 set inside ∙ ap Some (sym c.index.ensures) in
    let places : c.len-places.result - 1 ≡ size = omega (arith, c.in_ok-table.table.ok.0) in
    let last = subst (λ n. IsLatest (OpensAt set a.behind.now n) c.last_open-found.result) places c.last_open-found.ensures in
    subst (IsLatest (ReachesOpen line x a.times a.behind.now start end)) (sym c.ahead-place.ensures) (open-ahead R start end size a.behind.now table set c.last_open-found.result (repeated-ordered (MatchesTurn line x) a.times (turn-ordered line x)) z r at last)
