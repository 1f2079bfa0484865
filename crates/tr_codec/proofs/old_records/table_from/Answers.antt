use Rattle.std.proofs.Common.{◌≡◌, ◌∙◌, ◌∷◌, List, map, refl, sym, ap, subst}
use Rattle.std.specs.List.{AllByRecursion}
use Rattle.tr_record.specs.declared.records.Record.{Record}
use Rattle.tr_codec.specs.declared.rows.HeadedRow.{HeadedRow}
use Rattle.tr_codec.specs.OldRows.{IsWithin, records_from}
use Rattle.tr_codec.specs.Reading.{next_rec}
use Rattle.tr_codec.specs.Rows.{row_under}
use Rattle.tr_codec.proofs.RecordLemmas.{heads_more}
use Rattle.tr_codec.proofs.old_records.table_from.Goals as goal

pub rows-preserved : goal.rows-preserved
rows-preserved c =
    let nodes = c.args.pool.now.value.nodes in
    let row = c.in-Some.row in
    let left = c.pop_front.new.self.items in
    let rest = map (row_under nodes) left in
    let first : c.rows.left.items ≡ row ∷ left = c.in-Some.ensures.items in
    let within = subst (λ (l : List HeadedRow). AllByRecursion (IsWithin nodes) l) first c.rows.invariant.within in
    let rec = next_rec c.rows.table (row_under nodes row) in
    record {
      table = ap (λ (t : List Record). records_from t rest) c.in_ok-push_row.ensures.table ∙ sym (ap (λ l. records_from c.rows.table (map (row_under nodes) l)) first) ∙ c.rows.invariant.table;
      within = within.1;
      heads = rw (c.in_ok-push_row.ensures.table, c.in_ok-push_row.ensures.heads) (heads_more nodes c.rows.heads.items c.rows.table row.head rec c.rows.invariant.heads within.0 refl);
    }
