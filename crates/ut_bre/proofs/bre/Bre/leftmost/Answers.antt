use Rattle.std.proofs.Common.{subst}
use Rattle.ut_bre.specs.Expressions.{expression}
use Rattle.ut_bre.specs.Images.{IsFarthest}
use Rattle.ut_bre.proofs.Halved.{none-between}
use Rattle.ut_bre.proofs.bre.Bre.leftmost.Goals as goal

pub returns-in-None : goal.returns-in-None
returns-in-None c =
    let e = expression c.args.self.now in
    let line = c.args.line.now in
    none-between e line c.args.from c.args.to (subst (IsFarthest e line c.args.from c.args.to) c.in-None.is c.in_ok-farthest.ensures)
