use Rattle.std.proofs.Common.{◌≡◌, length}
use Rattle.ut_bre.specs.Picking.{MatchesRest}
use Rattle.ut_bre.specs.Resting.{rest_of}
use Rattle.ut_bre.specs.Rows.{LeadsOn}
use Rattle.ut_bre.proofs.Rowed.{ToldBelow}
use Rattle.ut_bre.proofs.by_sets.related_row.Given as goal

abbrev pub invariant-places : goal.invariant-places
invariant-places l = record {
  count : length l.row ≡ l.far;
  told : ToldBelow (LeadsOn (MatchesRest l.fn.line (rest_of l.fn.rest)) l.behind l.fn.span.end) l.fn.span.end l.far l.row;
}
