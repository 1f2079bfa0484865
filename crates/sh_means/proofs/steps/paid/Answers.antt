use Rattle.std.proofs.Common.{◌≤◌, arith}
use Rattle.sh_means.proofs.Weighing.{falls_paid}
use Rattle.sh_means.proofs.steps.paid.Goals as goal

pub returns-clause-costly : goal.returns-clause-costly
returns-clause-costly c = λ m n. falls_paid m n 1 c.args.control (omega arith)
