use Rattle.ut_bre.proofs.StartLemmas.{out_more}
use Rattle.ut_bre.proofs.starts.next_in.Goals as goal

pub bytes-preserved : goal.bytes-preserved
bytes-preserved c = out_more c.args.table.now c.args.line.now c.args.from c.bytes.at c.at.result c.at.ensures c.if-at.false c.bytes.invariant
