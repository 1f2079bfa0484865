use Rattle.ut_bre.specs.Expressions.{expression}
use Rattle.ut_bre.proofs.Existing.{is-found}
use Rattle.ut_bre.proofs.bre.Bre.find.Goals as goal

pub returns : goal.returns
returns c = record {
  finds = c.in_ok-found.ensures;
  value = is-found (expression c.args.self.now) c.args.line.now c.args.from c.in_ok-found.found c.in_ok-found.ensures;
}
