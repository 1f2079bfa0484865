use Rattle.rk_show.proofs.CountedLemmas.{counted-at}
use Rattle.rk_show.proofs.trace.add_records.Goals as goal

pub add_record-requires : goal.add_record-requires
add_record-requires c = (counted-at c.args.table.now c.loop-rec.rec-index c.rec-item.result c.loop-rec-test.true c.rec-item.is c.loop-rec.invariant.counted).0
