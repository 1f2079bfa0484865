use Rattle.std.proofs.Common.{◌≡◌, ◌-◌, List, [], map}
use Rattle.std.specs.List.{AllByRecursion}
use Rattle.tr_codec.specs.NodesRead.{AreTold}
use Rattle.tr_codec.specs.OldReading.{row_at}
use Rattle.tr_codec.specs.OldRows.{IsWithin, rows_used}
use Rattle.tr_codec.specs.Reading.{Row, many_at}
use Rattle.tr_codec.specs.Rows.{row_under}
use Rattle.tr_codec.proofs.old_records.so_many_rows.Given as goal

abbrev pub invariant-rows : goal.invariant-rows
invariant-rows l = record {
  read : many_at (λ (before : List Row). row_at l.blobs) (l.count - l.counter) (map (row_under l.pool.nodes) l.rows.items) l.rest ≡ many_at (λ (before : List Row). row_at l.blobs) l.count [] l.bytes;
  within : AllByRecursion (IsWithin l.pool.nodes) l.rows.items;
  told : AreTold l.blobs l.initial.pool → AreTold l.blobs l.pool;
  used : l.used ≡ rows_used l.blobs l.initial.used (map (row_under l.pool.nodes) l.rows.items);
}
