use Rattle.std.proofs.Common.{ℕ, ◌≤◌, ◌<◌}
use Rattle.ut_places.specs.Places.{Has}
use Rattle.ut_places.proofs.places.Places.last.Given as goal

abbrev pub invariant-places : goal.invariant-places
invariant-places l = (l.at ≤ l.end) × ((j : ℕ) → l.at ≤ j → j < l.end → Has l.self j → ⊥)

abbrev pub decreases-places : goal.decreases-places
decreases-places l = l.at
