-- The finite map that rows make.
use Rattle.std.specs.Prelude.{◌≡◌, List, Some}
use Rattle.std.specs.FinMap.{FinMap, from_entries, get}
use Rattle.rk_base.specs.Text.{Text, text_cmp}

-- at a path that stands twice it has the first row's value
unfoldable pub map_of : {X : Type 0} → List (Text × X) → FinMap text_cmp X
map_of rows = from_entries rows

-- the map has at the row's path what the row has
abbrev pub IsRowOf : {X : Type 0} → FinMap text_cmp X → Text × X → Type 0
IsRowOf m row = get m row.0 ≡ Some row.1
