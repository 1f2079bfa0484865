-- Where a relation between places leads from a set of them, by so many steps.
use Rattle.std.specs.Prelude.{◌≡◌, ◌↔◌, ℕ, zero, suc, ◌≤◌, List, Some, slice_get}
use Rattle.ut_places.specs.declared.places.Places.{Places}
use Rattle.ut_places.specs.Places.{Has}

-- so many steps, one after another
abbrev pub Steps : (ℕ → ℕ → Type 0) → ℕ → ℕ → ℕ → Type 0
Steps R zero i j = i ≡ j
Steps R (suc n) i j = (k : ℕ) × Steps R n i k × R k j

-- no more than so many steps
abbrev pub UpTo : (ℕ → ℕ → Type 0) → ℕ → ℕ → ℕ → Type 0
UpTo R most i j = (n : ℕ) × (n ≤ most) × Steps R n i j

-- so many steps, and no more than so many behind them
abbrev pub Counted : (ℕ → ℕ → Type 0) → ℕ → ℕ → ℕ → ℕ → Type 0
Counted R least more i j = (k : ℕ) × Steps R least i k × UpTo R more k j

-- a table has for each place the set of those to which it leads
abbrev pub Leads : List Places → ℕ → ℕ → Type 0
Leads table i j = (set : Places) × (slice_get table i ≡ Some set) × Has set j

-- a set is where a relation leads from another one
abbrev pub IsImage : (ℕ → ℕ → Type 0) → Places → Places → Type 0
IsImage R from to = (j : ℕ) → Has to j ↔ ((i : ℕ) × Has from i × R i j)
