-- Where the turns of a star end, told by how far before the end of all of them that is.
use Rattle.std.specs.Prelude.{ℕ, ◌+◌, ◌-◌, ◌<◌, List, Some, None, length, slice_index}
use Rattle.ut_bre.specs.Times.{star}
use Rattle.ut_bre.specs.Matching.{Repeated}
use Rattle.ut_bre.specs.Picking.{IsNextTurn}
use Rattle.ut_bre.specs.Walking.{Mark}

-- the mark that comes in so far before the end, where some turn begins there
abbrev pub mark_at : ℕ → Mark → Mark
mark_at far None = None
mark_at far (Some next) = Some far

-- where turns lead from so far before the end to it, the first of them ends this far before it
abbrev pub EndsAt : (ℕ → ℕ → Type 0) → ℕ → ℕ → ℕ → Type 0
EndsAt R end far next = Repeated R star (end - far) end → (next < far) × IsNextTurn R star (end - far) end (end - next)

-- so for each place, from the one before the end on
abbrev pub AreEnds : (ℕ → ℕ → Type 0) → ℕ → List ℕ → Type 0
AreEnds R end ends = (k : ℕ) → k < length ends → EndsAt R end (k + 1) (slice_index ends k)
