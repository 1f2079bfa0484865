use Rattle.std.proofs.Common.{arith}
use Rattle.sh_pattern.specs.Classes.{in_class}
use Rattle.ut_select.proofs.SetLemmas.{others_step, others_whole}
use Rattle.ut_select.proofs.sets.class_bytes.Goals as goal

pub loop-i-preserved : goal.loop-i-preserved
loop-i-preserved c = others_step (in_class c.args.class) c.loop-i.i _ _ _ c.in_ok-push_where.ensures c.loop-i.invariant (omega arith)

pub returns : goal.returns
returns c = others_whole (in_class c.args.class) c.loop-i.bytes.items c.loop-i.i (omega arith) c.loop-i.invariant
