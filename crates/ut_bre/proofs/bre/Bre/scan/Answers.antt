use Rattle.ut_bre.specs.Expressions.{expression}
use Rattle.ut_bre.proofs.Walked.{past-end}
use Rattle.ut_bre.proofs.bre.Bre.scan.Goals as goal

pub returns-then-from-line : goal.returns-then-from-line
returns-then-from-line c = past-end (expression c.args.self.now) c.args.line.now c.args.from c.if-from-line.true
