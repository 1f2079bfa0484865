use Rattle.std.proofs.Common.{arith}
use Rattle.sh_means.proofs.Weighing.{falls_asked}
use Rattle.sh_means.proofs.steps.tell.Goals as goal

pub returns-in-Some-clause-costly : goal.returns-in-Some-clause-costly
returns-in-Some-clause-costly c = λ m n h. falls_asked m n _ _ _ (omega arith)
