use Rattle.std.proofs.Common.{inr}
use Rattle.ut_bre.specs.Expressions.{expression}
use Rattle.ut_bre.proofs.Halved.{found-on}
use Rattle.ut_bre.proofs.bre.Bre.seek.Goals as goal

pub returns-then-to-line : goal.returns-then-to-line
returns-then-to-line c =
    let inv = c.starts.invariant in
    let begins = c.in-Some.ensures in
    found-on (expression c.args.self.now) c.args.line.now c.args.from c.starts.at c.in-Some.start c.block_end-to.result c.in_ok-found.found inv.behind inv.none begins.0 begins.2 c.in_ok-found.ensures (inr c.if-to-line.true)
