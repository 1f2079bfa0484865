-- Relations between the places of a piece of a line, told by a table: for each place the set of those to which it leads.
use Rattle.std.specs.Prelude.{◌≡◌, ◌↔◌, ℕ, ◌+◌, ◌-◌, ◌≤◌, ◌<◌, List, Bool, true, Option, Some, None, length}
use Rattle.ut_places.specs.declared.places.Places.{Places}
use Rattle.ut_places.specs.Places.{Has}
use Rattle.ut_places.specs.Steps.{Leads}
use Rattle.ut_bre.specs.Rows.{Row, is_open}

-- From each of so many places behind a start, a table leads to where this relation does, up to so far behind the start. All
-- places are told by how far behind it they lie.
pub record Relates (R : ℕ → ℕ → Type 0) (start size places : ℕ) (table : List Places) : Type 0 where
  pub count : length table ≡ places
  pub leads : (i j : ℕ) → i < places → Leads table i j ↔ ((j ≤ size) × R (start + i) (start + j))

-- so from each place of a piece of so many bytes
abbrev pub IsRelation : (ℕ → ℕ → Type 0) → ℕ → ℕ → List Places → Type 0
IsRelation R start size = Relates R start size (size + 1)

-- how many turns may be taken in so many bytes: a turn that takes none isn't counted
abbrev pub most_in : Option ℕ → ℕ → ℕ
most_in None size = size
most_in (Some more) size = more

-- where a match may end: at the line's end alone, where `$` is last
abbrev pub IsEnd : Bool → ℕ → ℕ → Type 0
IsEnd at_end size j = (j ≤ size) × (at_end ≡ true → j ≡ size)

-- the last such place of a set; None where there is none
abbrev pub IsLastEnd : Places → Bool → ℕ → Option ℕ → Type 0
IsLastEnd set at_end size None = (j : ℕ) → IsEnd at_end size j → Has set j → ⊥
IsLastEnd set at_end size (Some end) = IsEnd at_end size end × Has set end × ((j : ℕ) → IsEnd at_end size j → Has set j → j ≤ end)

-- a place of a set from which what stands behind leads on, as its row tells
abbrev pub OpensAt : Places → Row → ℕ → ℕ → Type 0
OpensAt set behind size p = (p ≤ size) × Has set p × (is_open behind (size - p) ≡ true)

-- the place that lies so far behind another one
abbrev pub ahead : ℕ → Option ℕ → Option ℕ
ahead start None = None
ahead start (Some far) = Some (start + far)

-- how far before an end a place lies that is told from the start; where none is, how far before it another one lies
abbrev pub far_from : ℕ → ℕ → Option ℕ → ℕ
far_from size far None = far
far_from size far (Some p) = size - p
