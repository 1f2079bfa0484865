use Rattle.std.proofs.Common.{arith, true}
use Rattle.ut_bre.specs.Trees.{trees_of}
use Rattle.ut_bre.specs.Starting.{starts}
use Rattle.ut_bre.proofs.StartLemmas.{table_step, table_told}
use Rattle.ut_bre.proofs.starts.table_of.Goals as goal

pub loop-i-preserved : goal.loop-i-preserved
loop-i-preserved c = table_step (λ b. starts (trees_of c.args.items.now) true b) c.loop-i.i _ _ _ _ c.starts.ensures c.in_ok-push.ensures.items c.loop-i.invariant (omega arith)

pub returns : goal.returns
returns c = table_told c.args.items.now c.loop-i.entries.items c.loop-i.i c.loop-i.invariant
