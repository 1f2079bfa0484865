use Rattle.std.proofs.Common.{◌+◌}
use Rattle.ut_bre.specs.Expressions.{expression}
use Rattle.ut_bre.specs.Running.{NoneFrom}
use Rattle.ut_bre.proofs.bre.Bre.search_related.Given as goal

abbrev pub invariant-starts : goal.invariant-starts
invariant-starts l = NoneFrom (expression l.self) l.line l.from (l.from + l.far)
