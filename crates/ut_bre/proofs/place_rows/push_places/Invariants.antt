use Rattle.std.proofs.Common.{◌≤◌, length, drop}
use Rattle.ut_bre.proofs.RowLemmas.{PlacesFound}
use Rattle.ut_bre.proofs.place_rows.push_places.Given as goal

abbrev pub invariant-items : goal.invariant-items
invariant-items l = record {
  within : l.at ≤ length l.items;
  found : PlacesFound l.line (drop l.at l.items) l.span.start l.span.end l.bottom l.rows.items;
}

abbrev pub decreases-items : goal.decreases-items
decreases-items l = l.at
