use Rattle.std.proofs.Common.{arith}
use Rattle.sh_builtin.proofs.Refusing.{fewer_left}
use Rattle.sh_builtin.proofs.printf.tell_bad.Goals as goal

pub returns-then-at-len-clause-fewer : goal.returns-then-at-len-clause-fewer
returns-then-at-len-clause-fewer c = fewer_left c.pay_made.result 1 _ (omega arith) c.pay_made.ensures.fewer
