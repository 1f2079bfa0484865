use Rattle.std.proofs.Common.{◌≡◌, List, Some, sym, ap, subst, ◌∙◌}
use Rattle.std.specs.Prelude.{All}
use Rattle.std.specs.FinMap.{get}
use Rattle.rk_base.specs.Text.{Text}
use Rattle.rk_tree.specs.Entries.{Entries}
use Rattle.rk_tree.specs.Node.{Node}
use Rattle.rk_tree.specs.Rows.{IsRowOf}
use Rattle.rk_tree.proofs.RowsLemmas.{first_row, later_rows}
use Rattle.rk_tree.proofs.TextLemmas.{exact_texts}
use Rattle.rk_tree.proofs.snapshot_cursor.SnapshotCursor.get.Goals as goal

pub loop-self-preserved : goal.loop-self-preserved
loop-self-preserved c = record {
  same = c.loop-self.invariant.same;
  rows = subst (λ (rows : List (Text × Node)). All (IsRowOf c.loop-self.self-inside.snapshot.now) rows) c.row_of-self-inside.ensures
      (later_rows c.loop-self.self-inside.snapshot.now c.loop-self.self-inside.next c.loop-self.self-inside.rows c.in-Some.row c.in-Some.is c.loop-self.invariant.rows);
}

pub returns-in-Equal-clause-found : goal.returns-in-Equal-clause-found
returns-in-Equal-clause-found c =
    let m = c.loop-self.self-inside.snapshot.now in
    let row = c.in-Some.row in
    let here : c.args.path.now ≡ row.0 = sym (exact_texts c.row.inside.path.now c.args.path.now (sym c.cmp.ensures ∙ c.in-Equal.is)) ∙ ap (λ (r : Text × Node). r.0) c.row.view_is in
    sym
    (ap (λ (s : Entries). get s c.args.path.now) (sym (c.loop-self.invariant.same ∙ c.self.view_is))
    ∙ ap (get m) here
    ∙ first_row m c.loop-self.self-inside.next c.loop-self.self-inside.rows row c.in-Some.is c.loop-self.invariant.rows
    ∙ ap (λ (r : Text × Node). Some r.1) (sym c.row.view_is))
