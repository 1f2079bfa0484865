use Rattle.std.proofs.Common.{arith}
use Rattle.sh_means.proofs.steps.end.Goals as goal

pub returns-clause-costly : goal.returns-clause-costly
returns-clause-costly c = λ m n h. c.free.ensures.costly m n (omega arith)
