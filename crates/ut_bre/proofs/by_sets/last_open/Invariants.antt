use Rattle.std.proofs.Common.{ℕ, ◌-◌, ◌≤◌}
use Rattle.ut_bre.specs.Relations.{OpensAt}
use Rattle.ut_bre.proofs.by_sets.last_open.Given as goal

abbrev pub invariant-places : goal.invariant-places
invariant-places l = record {
  within : l.end ≤ l.places;
  none : (p : ℕ) → l.end ≤ p → OpensAt l.set l.behind (l.places - 1) p → ⊥;
}

abbrev pub decreases-places : goal.decreases-places
decreases-places l = l.end
