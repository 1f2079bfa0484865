use Rattle.std.proofs.Common.{arith}
use Rattle.sh_eval.proofs.begins.act_begin.Goals as goal

pub returns-in-Misused-clause-costly : goal.returns-in-Misused-clause-costly
returns-in-Misused-clause-costly c = λ m n le. c.tell.ensures.costly m n (omega arith)
