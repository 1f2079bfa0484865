use Rattle.std.proofs.Common.{subst}
use Rattle.ut_bre.specs.declared.tree.Times.{Times}
use Rattle.ut_bre.specs.Picking.{MatchesTurn}
use Rattle.ut_bre.specs.Rows.{AreTurnRows}
use Rattle.ut_bre.specs.Times.{less_one}
use Rattle.ut_bre.specs.Trees.{tree_of, trees_of}
use Rattle.ut_bre.proofs.RowLemmas.{rows-of}
use Rattle.ut_bre.proofs.groups.more_turn_rows.Goals as goal

pub returns : goal.returns
returns c =
    let a = c.args in
    let x = tree_of a.item.now in
    let rows = c.find_turn_rows.new.rows.items in
    let all = subst (λ (t : Times). AreTurnRows (MatchesTurn a.line.now x) a.span.start a.span.end t rows) c.less_one-rest.ensures c.in_ok-find_turn_rows.ensures in
    rows-of a.line.now x (trees_of a.body.now) a.span.start a.span.end (less_one a.left) rows c.requires.is_group all
