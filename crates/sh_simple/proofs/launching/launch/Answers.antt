use Rattle.std.proofs.Common.{arith}
use Rattle.sh_means.proofs.Weighing.{falls_asked}
use Rattle.sh_simple.proofs.launching.launch.Goals as goal

pub returns-clause-costly : goal.returns-clause-costly
returns-clause-costly c = λ m n. falls_asked m n _ 1 _ (omega arith)
