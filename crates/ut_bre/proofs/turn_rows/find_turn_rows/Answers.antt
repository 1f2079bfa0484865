use Rattle.ut_bre.specs.Picking.{MatchesTurn}
use Rattle.ut_bre.specs.Rows.{behind_counted}
use Rattle.ut_bre.specs.Trees.{tree_of}
use Rattle.ut_bre.proofs.RowLemmas.{found-none}
use Rattle.ut_bre.proofs.turn_rows.find_turn_rows.Goals as goal

pub push_beyond-requires-clause-found : goal.push_beyond-requires-clause-found
push_beyond-requires-clause-found c =
    let a = c.args in
    found-none (MatchesTurn a.line.now (tree_of a.item.now)) a.span.start a.span.end (behind_counted a.times.beyond) c.in_ok-bottom.bottom _ c.clear.ensures.items c.in_ok-bottom.ensures

pub returns : goal.returns
returns c = c.in_ok-push_needed.ensures.each
