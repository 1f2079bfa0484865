use Rattle.std.proofs.Common.{◌≡◌, [], map}
use Rattle.std.specs.List.{AllByRecursion}
use Rattle.std.specs.VecDeque.{deque_len}
use Rattle.tr_codec.specs.OldRows.{IsWithin, records_from}
use Rattle.tr_codec.specs.Rows.{row_under, AreHeads}
use Rattle.tr_codec.proofs.old_records.table_from.Given as goal

abbrev pub invariant-rows : goal.invariant-rows
invariant-rows l = record {
  table : records_from l.table (map (row_under l.pool.value.nodes) l.left.items) ≡ records_from [] (map (row_under l.pool.value.nodes) l.fn.rows.items);
  within : AllByRecursion (IsWithin l.pool.value.nodes) l.left.items;
  heads : AreHeads l.pool.value.nodes l.heads.items l.table;
}

abbrev pub decreases-rows : goal.decreases-rows
decreases-rows l = deque_len l.left
