use Rattle.std.proofs.Common.{ℕ, ◌-◌, ◌≤◌, ◌<◌}
use Rattle.ut_places.specs.Places.{Has}
use Rattle.ut_places.proofs.places.Places.next.Given as goal

abbrev pub invariant-places : goal.invariant-places
invariant-places l = (l.from ≤ l.at) × ((j : ℕ) → l.from ≤ j → j < l.at → Has l.self j → ⊥)

abbrev pub decreases-places : goal.decreases-places
decreases-places l = l.end - l.at
