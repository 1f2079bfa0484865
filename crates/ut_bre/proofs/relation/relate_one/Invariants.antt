use Rattle.std.proofs.Common.{◌-◌}
use Rattle.ut_bre.specs.Matching.{MatchesOne}
use Rattle.ut_bre.specs.Relations.{Relates}
use Rattle.ut_bre.proofs.relation.relate_one.Given as goal

abbrev pub invariant-places : goal.invariant-places
invariant-places l = Relates (MatchesOne l.line l.one) l.span.start (l.span.end - l.span.start) (l.at - l.span.start) l.table.items
