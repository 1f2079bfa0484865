use Rattle.std.proofs.Common.{◌≡◌, ◌-◌, ◌++◌, ℕ, List, []}
use Rattle.tr_nodes.specs.Tails.{tails_of}
use Rattle.tr_codec.specs.Reading.{record_at, many_at}
use Rattle.tr_codec.specs.Rows.{InUse, AreHeads}
use Rattle.tr_codec.specs.Used.{keys_used}
use Rattle.tr_codec.proofs.records.so_many_records.Given as goal

abbrev pub invariant-records : goal.invariant-records
invariant-records l = record {
  read : many_at (record_at l.blobs (tails_of l.pool.value.nodes)) (l.count - l.counter) l.table l.rest ≡ many_at (record_at l.blobs (tails_of l.pool.value.nodes)) l.count [] l.bytes;
  blobs : l.used.blobs ≡ keys_used l.blobs l.initial.used.blobs l.table;
  heads : AreHeads l.pool.value.nodes l.heads.items l.table;
  nodes : (earlier : List ℕ) → InUse l.pool.value.nodes earlier l.initial.used.nodes → InUse l.pool.value.nodes (earlier ++ l.heads.items) l.used.nodes;
}
