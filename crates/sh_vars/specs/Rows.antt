-- A map by name, as the code keeps it.
use Rattle.std.specs.Prelude.{ℕ, List, map, Vec}
use Rattle.std.specs.FinMap.{FinMap, from_entries}
use Rattle.rk_base.specs.Text.{Text, text_cmp}

-- the bytes of each name, with what it names
abbrev pub named : {A V : Type 0} → List (Vec ℕ A × V) → List (Text × V)
named rows = map (λ row. (row.0.items, row.1)) rows

-- the map that rows make; a name that stands twice names what stands in its first row
unfoldable pub map_of : {V : Type 0} → List (Text × V) → FinMap text_cmp V
map_of rows = from_entries rows
