use Rattle.sh_builtin.proofs.Refusing.{last_told, line_brought}
use Rattle.sh_builtin.proofs.read.line_read.Goals as goal

pub returns-in-Ok-clause-refused : goal.returns-in-Ok-clause-refused
returns-in-Ok-clause-refused c = line_brought c.line_came.result c.args.answer c.in_ok-it.it c.in-Ok.text c.in_ok-it.ensures c.in-Ok.is

pub returns-in-Err-clause-refused : goal.returns-in-Err-clause-refused
returns-in-Err-clause-refused c = last_told c.refused.result c.args.answer c.refused.ensures.last
