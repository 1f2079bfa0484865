use Rattle.std.proofs.Common.{arith}
use Rattle.sh_eval.proofs.begins.script_read.Goals as goal

pub returns-in-Ok-clause-costly : goal.returns-in-Ok-clause-costly
returns-in-Ok-clause-costly c = λ m n le. c.free.ensures.costly m n (omega arith)
