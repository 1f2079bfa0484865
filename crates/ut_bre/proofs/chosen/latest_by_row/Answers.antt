use Rattle.ut_bre.specs.Trees.{tree_of}
use Rattle.ut_bre.specs.Resting.{rest_of}
use Rattle.ut_bre.proofs.Opened.{rest-row}
use Rattle.ut_bre.proofs.chosen.latest_by_row.Goals as goal

pub returns : goal.returns
returns c =
    let a = c.args in
    rest-row a.line.now (tree_of a.item.now) a.times (rest_of a.rest) a.span.start a.span.end c.in_ok-none.none c.in_ok-row.row c.in_ok-found.found c.requires.order c.in_ok-none.ensures c.in_ok-row.ensures c.in_ok-found.ensures
