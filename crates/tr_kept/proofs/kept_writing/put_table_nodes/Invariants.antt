use Rattle.std.proofs.Common.{◌≡◌, List, length}
use Rattle.tr_record.specs.declared.records.Record.{Record}
use Rattle.tr_kept.specs.KnownPut.{RecordsPut}
use Rattle.tr_kept.proofs.KeptPutLemmas.{PutSoFar}
use Rattle.tr_kept.proofs.kept_writing.put_table_nodes.Given as goal

abbrev pub invariant-records : goal.invariant-records
invariant-records l = record {
  many : length l.numbers.items ≡ length l.pool.nodes;
  put : (before : List Record) → RecordsPut before l.initial.heads.items l.initial.nodes → PutSoFar before l.records l.i l.heads.items l.pool.nodes l.numbers.items l.nodes;
}
