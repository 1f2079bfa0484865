use Rattle.ut_bre.specs.Trees.{tree_of}
use Rattle.ut_bre.proofs.RowLemmas.{maybe-more}
use Rattle.ut_bre.proofs.turn_rows.push_maybe.Goals as goal

pub turns-preserved : goal.turns-preserved
turns-preserved c =
    let a = c.args in
    maybe-more a.line.now (tree_of a.item.now) a.span.start a.span.end c.turns.counter a.bottom.now c.turns.rows.items c.push_front.new.self.items c.top.result.now c.in_ok-row.row c.at_most_once.result c.turns.invariant c.top.ensures c.at_most_once.ensures c.in_ok-row.ensures c.in_ok-push_front.ensures.items
