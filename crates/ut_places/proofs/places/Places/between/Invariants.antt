use Rattle.std.proofs.Common.{ℕ, ◌≤◌, ◌<◌}
use Rattle.std.specs.Prelude.{◌↔◌}
use Rattle.ut_places.specs.Places.{Has}
use Rattle.ut_places.proofs.places.Places.between.Given as goal

abbrev pub invariant-places : goal.invariant-places
invariant-places l = (j : ℕ) → Has l.set j ↔ ((l.from ≤ j) × (j < l.place))
