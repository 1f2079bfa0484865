-- The snapshot of a tree, and the tree of a snapshot.
use Rattle.std.specs.Prelude.{ℕ, ◌+◌, List, [], ◌∷◌, Option, Some, None, slice_get}
use Rattle.std.specs.List.{filter_map}
use Rattle.std.specs.Option.{option_map}
use Rattle.std.specs.FinMap.{entries, insert, values}
use Rattle.rk_base.specs.Text.{Text}
use Rattle.rk_tree.specs.Entries.{Entries}
use Rattle.rk_tree.specs.Hierarchy.{Hierarchy}
use Rattle.rk_tree.specs.Rows.{map_of}
use Rattle.rk_tree.specs.Node.{Node}

-- a path with the node of this number
abbrev pub entry_row : List Node → Text × ℕ → Option (Text × Node)
entry_row nodes row = option_map (λ it. (row.0, it)) (slice_get nodes row.1)

-- what is found, put at a path
abbrev pub put_found : Entries → Text → Option Node → Entries
put_found snapshot path None = snapshot
put_found snapshot path (Some it) = insert snapshot path it

-- each path with its node
unfoldable pub snapshot_of : Hierarchy → Entries
snapshot_of tree = map_of (filter_map (entry_row tree.nodes) (entries tree.paths))

-- the paths of rows, numbered from k on
abbrev pub numbered : ℕ → List (Text × Node) → List (Text × ℕ)
numbered k [] = []
numbered k (row ∷ rows) = (row.0, k) ∷ numbered (k + 1) rows

-- a node for each path, in the order of the paths
unfoldable pub tree_of : Entries → Hierarchy
tree_of snapshot = record { paths = map_of (numbered 0 (entries snapshot)); nodes = values snapshot }
