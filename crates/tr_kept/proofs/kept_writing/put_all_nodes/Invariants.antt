use Rattle.std.proofs.Common.{take}
use Rattle.tr_record.specs.Generations.{records}
use Rattle.tr_kept.specs.KnownPut.{RecordsPut}
use Rattle.tr_kept.proofs.kept_writing.put_all_nodes.Given as goal

abbrev pub invariant-tables : goal.invariant-tables
invariant-tables l = RecordsPut (records (take l.k l.kept)) l.heads.items l.nodes
