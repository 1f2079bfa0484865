-- What a tree holds: the number of the node that stands at each path, and the nodes. Directories are spoken of by their numbers.
use Rattle.std.specs.Prelude.{ℕ, ◌/◌, ◌%◌, List, [], ◌∷◌, ◌++◌, length, Bool, false, ◌==◌, if◌then◌else◌, Option, Some, None, slice_get, slice_set, refl}
use Rattle.std.specs.Coded.{Coded, code_by, coded×, coded_ℕ, coded_list}
use Rattle.std.specs.Option.{option_and_then}
use Rattle.std.specs.List.{fold, filter_map}
use Rattle.std.specs.FinMap.{FinMap, empty, entries, get, insert, remove, code}
use Rattle.rk_base.specs.Text.{Text, text_cmp, same_text, parent, name_of, join, is_in, is_within, moved, written}
use Rattle.rk_base.specs.Canonical.{is_name}
use Rattle.rk_tree.specs.Content.{Content, Own, bytes_of, known_bytes, import_path, with_known}
use Rattle.rk_tree.specs.Node.{Node, File, Dir, Link, node_code}

abbrev pub Paths : Type 0
Paths = FinMap text_cmp ℕ

pub record Hierarchy : Type 0 where
  pub paths : Paths
  pub nodes : List Node

-- by which a proof tells two of them apart
abbrev pub hierarchy_code : Coded Hierarchy
hierarchy_code =
    code_by (Paths × List Node) (coded× (code (coded_list coded_ℕ) coded_ℕ) (coded_list node_code)) (λ h. (h.paths, h.nodes)) (λ p. record { paths = p.0; nodes = p.1 }) (λ _. refl)

-- the root's number
abbrev pub top : ℕ
top = 0

-- Nodes.

abbrev pub node : Hierarchy → ℕ → Option Node
node tree n = slice_get tree.nodes n

-- the mode; a link's is 0777
abbrev pub mode_of : Option Node → ℕ
mode_of None = 0
mode_of (Some (File mode content)) = mode
mode_of (Some (Dir mode)) = mode
mode_of (Some (Link text)) = 511

-- the owner's bits

abbrev pub has_r : ℕ → Bool
has_r mode = mode / 256 % 2 == 1

abbrev pub has_w : ℕ → Bool
has_w mode = mode / 128 % 2 == 1

abbrev pub has_x : ℕ → Bool
has_x mode = mode / 64 % 2 == 1

-- Where nodes stand.

-- the number at a path
abbrev pub number_at : Hierarchy → Text → Option ℕ
number_at tree path = get tree.paths path

abbrev pub first_path : ℕ → List (Text × ℕ) → Option Text
first_path n [] = None
first_path n (row ∷ rows) = if row.1 == n then Some row.0 else first_path n rows

-- the first path of a node; a directory has at most one
unfoldable pub path_of : Hierarchy → ℕ → Option Text
path_of tree n = first_path n (entries tree.paths)

-- the node of this name in a directory
unfoldable pub child : Hierarchy → ℕ → Text → Option ℕ
child tree dir name = if is_name name then option_and_then (λ path. number_at tree (join path name)) (path_of tree dir) else None

-- the directory that a directory stands in; the root's is the root
unfoldable pub parent_of : Hierarchy → ℕ → Option ℕ
parent_of tree dir = option_and_then (λ path. number_at tree (parent path)) (path_of tree dir)

abbrev pub name_in : Text → Text × ℕ → Option Text
name_in dir row = if is_in dir row.0 then Some (name_of row.0) else None

abbrev pub names_at : Paths → Option Text → List Text
names_at paths None = []
names_at paths (Some dir) = filter_map (name_in dir) (entries paths)

-- the names in a directory, ascending
unfoldable pub names : Hierarchy → ℕ → List Text
names tree dir = names_at tree.paths (path_of tree dir)

abbrev pub within : Option Text → Option Text → Bool
within None path = false
within (Some above) None = false
within (Some above) (Some path) = is_within above path

-- whether a directory is this one or stands anywhere below it
unfoldable pub stands_within : Hierarchy → ℕ → ℕ → Bool
stands_within tree above dir = within (path_of tree above) (path_of tree dir)

-- Changes of what stands where. Where a directory has no path, none of its names stands for anything.

abbrev pub with_path : Option Text → (Text → Paths) → Paths → Paths
with_path None f paths = paths
with_path (Some path) f paths = f path

-- a name in a directory stands for this node
unfoldable pub linked : Hierarchy → ℕ → Text → ℕ → Hierarchy
linked tree dir name n = record tree { paths = with_path (path_of tree dir) (λ path. insert tree.paths (join path name) n) tree.paths }

-- a node more
abbrev pub with_node : Hierarchy → Node → Hierarchy
with_node tree it = record tree { nodes = tree.nodes ++ it ∷ [] }

-- a new node under a name in a directory
unfoldable pub added : Hierarchy → ℕ → Text → Node → Hierarchy
added tree dir name it = record { paths = (linked tree dir name (length tree.nodes)).paths; nodes = tree.nodes ++ it ∷ [] }

-- a name in a directory stands for nothing; the node stays
unfoldable pub removed : Hierarchy → ℕ → Text → Hierarchy
removed tree dir name = record tree { paths = with_path (path_of tree dir) (λ path. remove tree.paths (join path name)) tree.paths }

-- a row goes to its new place; what stood at `to` is gone
abbrev pub moves : Text → Text → Paths → Text × ℕ → Paths
moves from to paths row = if same_text row.0 to then paths else insert paths (moved from to row.0) row.1

-- every path within `from` goes to `to`, in the place of what stood there
unfoldable pub moved_paths : Text → Text → Paths → Paths
moved_paths from to paths = fold (moves from to) empty (entries paths)

abbrev pub is_same : Option ℕ → Option ℕ → Bool
is_same None m = false
is_same (Some n) None = false
is_same (Some n) (Some m) = n == m

-- what stands under a name, and all below it, goes under another name, in the place of what stood there; where both names stand for one node nothing changes
unfoldable pub renamed : Hierarchy → ℕ → Text → ℕ → Text → Hierarchy
renamed tree dir name to new =
    if is_same (child tree dir name) (child tree to new) then tree
    else record tree { paths = with_path (path_of tree dir) (λ from. with_path (path_of tree to) (λ onto. moved_paths (join from name) (join onto new) tree.paths) tree.paths) tree.paths }

-- Changes of nodes.

abbrev pub set_node : Hierarchy → ℕ → Node → Hierarchy
set_node tree n it = record tree { nodes = slice_set tree.nodes n it }

abbrev pub changed_at : (Node → Node) → List Node → ℕ → Option Node → List Node
changed_at f nodes n None = nodes
changed_at f nodes n (Some it) = slice_set nodes n (f it)

-- the node of this number, if there is one, becomes another
abbrev pub change_node : Hierarchy → ℕ → (Node → Node) → Hierarchy
change_node tree n f = record tree { nodes = changed_at f tree.nodes n (node tree n) }

-- what a file holds; any other node has no bytes
abbrev pub held_in : Option Node → Content
held_in None = Own []
held_in (Some (File mode content)) = content
held_in (Some (Dir mode)) = Own []
held_in (Some (Link text)) = Own []

-- the bytes of a file that are known
abbrev pub file_bytes : Option Node → List ℕ
file_bytes it = bytes_of (held_in it)

-- the bytes of a file, where they are known; of any other node there are none
abbrev pub known_in : Option Node → Option (List ℕ)
known_in it = known_bytes (held_in it)

-- where a file came from, until it is written or emptied
abbrev pub path_in : Option Node → Option Text
path_in it = import_path (held_in it)

abbrev pub text_of : Option Node → List ℕ
text_of None = []
text_of (Some (File mode content)) = []
text_of (Some (Dir mode)) = []
text_of (Some (Link text)) = text

-- the node that holds this, if it is a file
abbrev pub with_content : Content → Node → Node
with_content content (File mode old) = File mode content
with_content content (Dir mode) = Dir mode
with_content content (Link text) = Link text

-- the node with these bytes of its own, if it is a file
abbrev pub replaced : List ℕ → Node → Node
replaced bytes it = with_content (Own bytes) it

-- a file's bytes are replaced
abbrev pub set_bytes : Hierarchy → ℕ → List ℕ → Hierarchy
set_bytes tree n bytes = change_node tree n (replaced bytes)

-- a file holds this
abbrev pub set_content : Hierarchy → ℕ → Content → Hierarchy
set_content tree n content = change_node tree n (with_content content)

-- the node with bytes that are known now beside its import path, if it is a file
abbrev pub knowing : List ℕ → Node → Node
knowing bytes (File mode content) = File mode (with_known bytes content)
knowing bytes (Dir mode) = Dir mode
knowing bytes (Link text) = Link text

-- the bytes of a file are known
abbrev pub know : Hierarchy → ℕ → List ℕ → Hierarchy
know tree n bytes = change_node tree n (knowing bytes)

-- the node with bytes written over those that are known from a place on, which become its own, if it is a file
abbrev pub over_written : ℕ → List ℕ → Node → Node
over_written at bytes (File mode old) = File mode (Own (written (bytes_of old) at bytes))
over_written at bytes (Dir mode) = Dir mode
over_written at bytes (Link text) = Link text

-- bytes are written over a file's from a place on; a gap before it becomes zero bytes
abbrev pub write : Hierarchy → ℕ → ℕ → List ℕ → Hierarchy
write tree n at bytes = change_node tree n (over_written at bytes)

-- the node with this mode; a link has none of its own
abbrev pub with_mode : ℕ → Node → Node
with_mode mode (File old content) = File mode content
with_mode mode (Dir old) = Dir mode
with_mode mode (Link text) = Link text

-- the mode of a file or a directory is replaced
abbrev pub set_mode : Hierarchy → ℕ → ℕ → Hierarchy
set_mode tree n mode = change_node tree n (with_mode mode)
