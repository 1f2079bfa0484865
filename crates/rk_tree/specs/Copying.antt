-- The steps by which the code makes a snapshot, and a tree of one.
use Rattle.std.specs.Prelude.{◌≡◌, ℕ, List, [], ◌∷◌, ◌++◌, length, true, false, if◌then◌else◌, Option, Some, None}
use Rattle.std.specs.List.{fold}
use Rattle.std.specs.Option.{option_and_then}
use Rattle.std.specs.FinMap.{empty, get, insert}
use Rattle.rk_base.specs.Text.{Text, root, hidden, join, is_within}
use Rattle.rk_base.specs.Canonical.{is_canonical}
use Rattle.rk_tree.specs.Copies.{put_found}
use Rattle.rk_tree.specs.Entries.{Entries, is_dir, IsFit}
use Rattle.rk_tree.specs.Hierarchy.{Hierarchy, node, number_at, path_of, names}
use Rattle.rk_tree.specs.Node.{Node}
use Rattle.rk_tree.specs.Rows.{map_of}
use Rattle.rk_tree.specs.Whole.{IsPlaced}

-- rows, put one after another
abbrev pub made_of : List (Text × Node) → Entries
made_of rows = fold (λ m row. insert m row.0 row.1) empty rows

-- what stands under a name of the directory at a path, put at its path
abbrev pub put_name : Hierarchy → Text → Entries → Text → Entries
put_name tree path snapshot name = put_found snapshot (join path name) (option_and_then (node tree) (number_at tree (join path name)))

abbrev pub put_names : Hierarchy → ℕ → Entries → Option Text → Entries
put_names tree dir snapshot None = snapshot
put_names tree dir snapshot (Some path) = fold (put_name tree path) snapshot (names tree dir)

-- what stands in a directory, put at its paths
abbrev pub put_dir : Hierarchy → Entries → ℕ → Entries
put_dir tree snapshot dir = if is_dir (node tree dir) then put_names tree dir snapshot (path_of tree dir) else snapshot

-- a path at which a new node may stand
pub record MayTake (tree : Hierarchy) (path : Text) (it : Node) : Type 0 where
  pub canonical : is_canonical path ≡ true
  pub absent : number_at tree path ≡ None
  pub placed : IsPlaced tree path
  pub seen : is_within (join root hidden) path ≡ false
  pub fit : IsFit it

-- a new node at a path
abbrev pub with_node_at : Hierarchy → Text → Node → Hierarchy
with_node_at tree path it = record { paths = insert tree.paths path (length tree.nodes); nodes = tree.nodes ++ it ∷ [] }

-- rows that have the number of each directory at its path
abbrev pub HasDirs : Hierarchy → List (Text × ℕ) → Type 0
HasDirs tree rows = (path : Text) (n : ℕ) → number_at tree path ≡ Some n → is_dir (node tree n) ≡ true → get (map_of rows) path ≡ Some n
