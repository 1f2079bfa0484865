use Rattle.std.proofs.Common.{arith}
use Rattle.rk_replay.specs.Ran.{ran_total}
use Rattle.rk_replay.proofs.paying.paid.Goals as goal

pub loop-rec-init : goal.loop-rec-init
unfolding ran_total
loop-rec-init c = omega arith
