use Rattle.ut_bre.specs.Expressions.{expression}
use Rattle.ut_bre.proofs.Existing.{is-groups}
use Rattle.ut_bre.proofs.bre.Bre.groups_in.Goals as goal

pub returns : goal.returns
returns c = record {
  puts = c.in_ok-groups.ensures;
  value = is-groups (expression c.args.self.now) c.args.line.now c.args.span c.in_ok-groups.groups c.requires c.in_ok-groups.ensures;
}
