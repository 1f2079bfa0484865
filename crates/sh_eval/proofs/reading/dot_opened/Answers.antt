use Rattle.std.proofs.Common.{arith}
use Rattle.sh_means.proofs.Weighing.{falls_asked}
use Rattle.sh_eval.proofs.reading.dot_opened.Goals as goal

pub returns-in-Ok-clause-costly : goal.returns-in-Ok-clause-costly
returns-in-Ok-clause-costly c = λ m n h. falls_asked m n _ 1 _ (omega arith)
