-- The nodes as the code keeps them: with each its names, and with each directory the place where it stands.
use Rattle.std.specs.Prelude.{◌≡◌, ℕ, List, true, map, Option, Some, None, slice_get, slice_set}
use Rattle.std.specs.FinMap.{empty, get, insert, remove}
use Rattle.rk_base.specs.Text.{Text, join}
use Rattle.rk_base.specs.Canonical.{is_name}
use Rattle.rk_tree.specs.Node.{Node, File, Dir, Link}
use Rattle.rk_tree.specs.declared.inode.Inode.{Inode}
use Rattle.rk_tree.specs.Entries.{is_dir}
use Rattle.rk_tree.specs.Hierarchy.{Hierarchy, Paths, top}

abbrev pub nodes_of : List Inode → List Node
nodes_of nodes = map (λ n. n.node) nodes

-- what the nodes make of the paths
abbrev pub hierarchy_of : Paths → List Inode → Hierarchy
hierarchy_of paths nodes = record { paths = paths; nodes = nodes_of nodes }

-- Names.

abbrev pub names_in : Option Inode → Paths
names_in None = empty
names_in (Some it) = it.names

-- the number under a name of a node
abbrev pub under : List Inode → ℕ → Text → Option ℕ
under nodes n name = get (names_in (slice_get nodes n)) name

-- each name of a node is a name, and the node stands somewhere
abbrev pub AreAttached : Paths → List Inode → Type 0
AreAttached paths nodes = (n : ℕ) (name : Text) (m : ℕ) → under nodes n name ≡ Some m → (is_name name ≡ true) × (path : Text) × (get paths path ≡ Some n)

-- Places.

abbrev pub place_in : Option Inode → Option (ℕ × Text)
place_in None = None
place_in (Some it) = it.place

-- this place of a directory, or none
abbrev pub IsPlace : Paths → ℕ → Option (ℕ × Text) → Type 0
IsPlace paths n None = (path : Text) → get paths path ≡ Some n → ⊥
IsPlace paths n (Some place) = (is_name place.1 ≡ true) × (path : Text) × (get paths path ≡ Some place.0) × (get paths (join path place.1) ≡ Some n)

-- each directory below the root has its place with it
abbrev pub HavePlaces : Paths → List Inode → Type 0
HavePlaces paths nodes = (n : ℕ) → (n ≡ top → ⊥) → is_dir (slice_get (nodes_of nodes) n) ≡ true → IsPlace paths n (place_in (slice_get nodes n))

-- Changes of nodes.

abbrev pub changed_at : (Inode → Inode) → List Inode → ℕ → Option Inode → List Inode
changed_at f nodes n None = nodes
changed_at f nodes n (Some it) = slice_set nodes n (f it)

-- the node of this number, if there is one, becomes another
abbrev pub change : (Inode → Inode) → List Inode → ℕ → List Inode
change f nodes n = changed_at f nodes n (slice_get nodes n)

abbrev pub as_node : (Node → Node) → Inode → Inode
as_node f it = record it { node = f it.node }

abbrev pub with_place : Option (ℕ × Text) → Inode → Inode
with_place place it = record it { place = place }

-- the node of this number, if there is one, has no place
abbrev pub cleared : List Inode → Option ℕ → List Inode
cleared nodes None = nodes
cleared nodes (Some n) = change (with_place None) nodes n

-- a name stands for this number
abbrev pub with_name : Text → ℕ → Inode → Inode
with_name name n it = record it { names = insert it.names name n }

-- a name stands for nothing
abbrev pub without_name : Text → Inode → Inode
without_name name it = record it { names = remove it.names name }

-- New nodes, without names.

abbrev pub place_of : Node → ℕ → Text → Option (ℕ × Text)
place_of (File mode content) dir name = None
place_of (Dir mode) dir name = Some (dir, name)
place_of (Link text) dir name = None

abbrev pub placed : ℕ → Text → Node → Inode
placed dir name it = record { node = it; place = place_of it dir name; names = empty }

abbrev pub lost : Node → Inode
lost it = record { node = it; place = None; names = empty }
