use Rattle.std.proofs.Common.{◌+◌, arith}
use Rattle.ut_select.proofs.SetLemmas.{range_step}
use Rattle.ut_select.proofs.sets.push_range.Goals as goal

pub loop-b-preserved : goal.loop-b-preserved
loop-b-preserved c = range_step c.loop-b.b (c.args.high + 1) _ _ _ _ c.in_ok-push.ensures.items c.loop-b.invariant (omega arith) (omega arith)
