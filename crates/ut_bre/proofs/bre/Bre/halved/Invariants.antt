use Rattle.std.proofs.Common.{◌-◌, ◌≤◌, ◌<◌}
use Rattle.std.specs.Prelude.{Some}
use Rattle.ut_bre.specs.Expressions.{expression}
use Rattle.ut_bre.specs.Running.{NoneFrom}
use Rattle.ut_bre.specs.Images.{IsFarthest}
use Rattle.ut_bre.proofs.bre.Bre.halved.Given as goal

abbrev pub invariant-halves : goal.invariant-halves
invariant-halves l = record {
  behind : l.from ≤ l.low;
  order : l.low < l.high;
  within : l.high ≤ l.to;
  none : NoneFrom (expression l.self) l.line l.from l.low;
  far : IsFarthest (expression l.self) l.line l.low l.high (Some l.end);
}

abbrev pub decreases-halves : goal.decreases-halves
decreases-halves l = l.high - l.low
