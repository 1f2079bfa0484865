use Rattle.std.proofs.Common.{arith}
use Rattle.ut_select.specs.Trs.{image}
use Rattle.ut_select.proofs.SetLemmas.{table_step, table_whole}
use Rattle.ut_select.proofs.table.Table.of_images.Goals as goal

pub loop-i-preserved : goal.loop-i-preserved
loop-i-preserved c = table_step (image c.args.from.now c.args.to.now) c.loop-i.i _ _ _ _ c.image.ensures c.in_ok-push.ensures.items c.loop-i.invariant (omega arith)

pub returns : goal.returns
returns c = table_whole (image c.args.from.now c.args.to.now) c.loop-i.entries.items c.loop-i.i (omega arith) c.loop-i.invariant
