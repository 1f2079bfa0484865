use Rattle.std.proofs.Common.{◌+◌, ◌-◌, length, ap, arith}
use Rattle.sh_builtin.specs.Refused.{refusals}
use Rattle.sh_builtin.proofs.Refusing.{last_refused, last_read, last_fewer, fewer_refused}
use Rattle.sh_builtin.proofs.builtin.go_on.Goals as goal

pub returns-in-Writing-clause-refused : goal.returns-in-Writing-clause-refused
returns-in-Writing-clause-refused c = last_refused c.written.result c.args.answer (refusals c.args.stage) c.written.ensures.last (omega (arith, ap refusals c.in-Writing.is))

pub returns-in-Walking-clause-refused : goal.returns-in-Walking-clause-refused
returns-in-Walking-clause-refused c = last_refused c.walked.result c.args.answer (refusals c.args.stage) c.walked.ensures.last (omega (arith, ap refusals c.in-Walking.is))

pub returns-in-Reading-clause-refused : goal.returns-in-Reading-clause-refused
returns-in-Reading-clause-refused c = last_read c.line_read.result c.args.answer (refusals c.args.stage) c.line_read.ensures.refused (omega (arith, ap refusals c.in-Reading.is))

pub returns-in-Printing-clause-refused : goal.returns-in-Printing-clause-refused
returns-in-Printing-clause-refused c = fewer_refused c.tell_bad.result c.args.answer (refusals c.args.stage) (length c.in-Printing.bad - c.in-Printing.at + 1) c.tell_bad.ensures.fewer (ap refusals c.in-Printing.is)

pub returns-in-Paid-clause-refused : goal.returns-in-Paid-clause-refused
returns-in-Paid-clause-refused c = fewer_refused c.write_made.result c.args.answer (refusals c.args.stage) 2 c.write_made.ensures.fewer (ap refusals c.in-Paid.is)

pub returns-in-Judging-clause-refused : goal.returns-in-Judging-clause-refused
returns-in-Judging-clause-refused c = λ is. last_fewer c.judged.result (refusals c.args.stage) c.judged.ensures.last (omega (arith, ap refusals c.in-Judging.is))

pub returns-in-Over-clause-refused : goal.returns-in-Over-clause-refused
returns-in-Over-clause-refused c = λ is. c.over.ensures.exits (refusals c.args.stage) (refusals c.over.result.stage)
