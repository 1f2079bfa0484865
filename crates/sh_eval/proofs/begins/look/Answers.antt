use Rattle.std.proofs.Common.{arith}
use Rattle.sh_means.proofs.Weighing.{falls_asked}
use Rattle.sh_eval.proofs.begins.look.Goals as goal

pub returns-clause-costly : goal.returns-clause-costly
returns-clause-costly c = λ m n h. falls_asked m n _ 1 _ (omega arith)
