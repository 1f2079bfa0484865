-- The names in a directory, as the code keeps them.
use Rattle.std.specs.Prelude.{ℕ, List, [], ◌∷◌, map, Vec}
use Rattle.rk_base.specs.Text.{Text, join}

-- the bytes of each name, with its number
abbrev pub named : {A : Type 0} → List (Vec ℕ A × ℕ) → List (Text × ℕ)
named rows = map (λ row. (row.0.items, row.1)) rows

-- names put after a directory's path, the last one first
abbrev pub path_by : Text → List Text → Text
path_by dir [] = dir
path_by dir (name ∷ names) = join (path_by dir names) name
