use Rattle.std.proofs.Common.{arith}
use Rattle.sh_means.proofs.Weighing.{sinks_more}
use Rattle.sh_eval.proofs.begins.fail.Goals as goal

pub returns-clause-costly : goal.returns-clause-costly
returns-clause-costly c = sinks_more c.refuse.result 1 3 c.refuse.ensures.costly (omega arith)
