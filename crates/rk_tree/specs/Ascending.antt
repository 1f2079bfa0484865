-- Names that came in order, as the code keeps them.
use Rattle.std.specs.Prelude.{ℕ, List, [], ◌∷◌, Bool, true, map, Vec, Option}
use Rattle.std.specs.List.{filter_map}
use Rattle.std.specs.Option.{option_map}
use Rattle.std.specs.Ordering.{is_lt}
use Rattle.rk_base.specs.Text.{Text, text_cmp}
use Rattle.rk_tree.specs.Hierarchy.{Paths}
use Rattle.rk_tree.specs.Names.{named}
use Rattle.rk_tree.specs.Rows.{map_of}
use Rattle.rk_tree.specs.declared.names.Rows.{Rows}
use Rattle.rk_tree.specs.declared.names.Rows.TheVariants.{InOrder, Searched}

-- the bytes of each name, with what it stands for
abbrev pub stated : {A : Type 0} → List (Vec ℕ A × Option ℕ) → List (Text × Option ℕ)
stated rows = map (λ row. (row.0.items, row.1)) rows

-- the names that stand for something
abbrev pub held : List (Text × Option ℕ) → List (Text × ℕ)
held rows = filter_map (λ row. option_map (λ n. (row.0, n)) row.1) rows

abbrev pub map_held : {A : Type 0} → List (Vec ℕ A × Option ℕ) → Paths
map_held rows = map_of (held (stated rows))

-- a name comes behind the last of these rows
abbrev pub comes_last : List (Text × Option ℕ) → Text → Bool
comes_last [] name = true
comes_last (row ∷ []) name = is_lt (text_cmp row.0 name)
comes_last (row ∷ next ∷ rows) name = comes_last (next ∷ rows) name

-- the names of a directory, by whichever rows it has
abbrev pub names_by : Rows → Paths
names_by (InOrder names) = names
names_by (Searched names) = map_of (named names.entries)
