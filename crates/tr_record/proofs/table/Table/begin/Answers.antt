use Rattle.std.proofs.Common.{rules}
use Rattle.tr_record.specs.Rec.{begun}
use Rattle.tr_record.proofs.table.Table.begin.Goals as goal

pub returns-clause-table : goal.returns-clause-table
unfolding begun
returns-clause-table c = search rules
