-- Where items lead from a set of places of a line, up to an end; and matches that begin within some places.
use Rattle.std.specs.Prelude.{◌≡◌, ◌⊎◌, ℕ, ◌+◌, ◌≤◌, ◌<◌, Option, Some, None}
use Rattle.rk_base.specs.Text.{Text}
use Rattle.ut_bre.specs.declared.group.Span.{Span}
use Rattle.ut_bre.specs.declared.set.One.{One}
use Rattle.ut_bre.specs.Trees.{Expression}
use Rattle.ut_bre.specs.Matching.{MatchesOne, Matches, IsLeftmostLongest}
use Rattle.ut_bre.specs.Picking.{IsLatest}
use Rattle.ut_bre.specs.Running.{NoneFrom}

-- a relation between places, up to an end
abbrev pub Until : (ℕ → ℕ → Type 0) → ℕ → ℕ → ℕ → Type 0
Until R end i j = (j ≤ end) × R i j

-- the run of bytes that are met goes on over a place, or begins anew behind it
abbrev pub RunsOn : Text → One → ℕ → ℕ → ℕ → Type 0
RunsOn line what at run next = (MatchesOne line what at (at + 1) × (next ≡ run)) ⊎ ((MatchesOne line what at (at + 1) → ⊥) × (next ≡ at + 1))

-- a place that isn't before a run of bytes leads to another one, by no more than so many of them
abbrev pub Reaches : Option ℕ → ℕ → ℕ → ℕ → Type 0
Reaches None run most j = ⊥
Reaches (Some i) run most j = (run ≤ i) × (j ≤ i + most)

-- a match that begins from one place on and before another one ends here
abbrev pub EndsFrom : Expression → Text → ℕ → ℕ → ℕ → Type 0
EndsFrom e line from to j = (i : ℕ) × (from ≤ i) × (i < to) × Matches e line i j

-- the last such end; None where there is none
abbrev pub IsFarthest : Expression → Text → ℕ → ℕ → Option ℕ → Type 0
IsFarthest e line from to = IsLatest (EndsFrom e line from to)

-- the leftmost of the matches that begin from one place on and before another one, and the longest there
abbrev pub FindsBetween : Expression → Text → ℕ → ℕ → Option Span → Type 0
FindsBetween e line from to None = NoneFrom e line from to
FindsBetween e line from to (Some span) = IsLeftmostLongest e line from span
