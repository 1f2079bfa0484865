use Rattle.std.proofs.Common.{List, sym, subst, ◌∙◌}
use Rattle.std.specs.Prelude.{All}
use Rattle.rk_base.specs.Text.{Text}
use Rattle.rk_tree.specs.Node.{Node}
use Rattle.rk_tree.specs.Rows.{IsRowOf}
use Rattle.rk_tree.proofs.RowsLemmas.{all_rows}
use Rattle.rk_tree.proofs.snapshot_cursor.SnapshotCursor.new.Goals as goal

pub invariant_of-result : goal.invariant_of-result
invariant_of-result c =
    subst (λ (rows : List (Text × Node)). All (IsRowOf c.args.snapshot.now) rows) (sym (c.iter-rows.ensures.rest ∙ c.rows.ensures) ∙ c.row_of-next.ensures) (all_rows c.args.snapshot.now)
