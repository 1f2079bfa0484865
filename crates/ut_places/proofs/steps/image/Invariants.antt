use Rattle.std.proofs.Common.{ℕ, ◌-◌, ◌<◌, length}
use Rattle.std.specs.Prelude.{◌↔◌}
use Rattle.ut_places.specs.Places.{Has}
use Rattle.ut_places.specs.Steps.{Leads}
use Rattle.ut_places.proofs.steps.image.Given as goal

abbrev pub invariant-places : goal.invariant-places
invariant-places l = (j : ℕ) → Has l.to j ↔ ((i : ℕ) × (i < l.at) × Has l.set i × Leads l.table i j)

abbrev pub decreases-places : goal.decreases-places
decreases-places l = length l.table - l.at
