-- What a folder holds: what stands at each path, and the directories that hold a name which is none.
use Rattle.std.specs.Prelude.{ℕ, ◌^◌, max, List, Bool, true, false, not, ◌&&◌, [], ◌∷◌, ◌++◌, if◌then◌else◌, Option, Some, None}
use Rattle.std.specs.FinMap.{FinMap, empty, entries, get, insert, remove}
use Rattle.std.specs.List.{filter_map, list_any}
use Rattle.rk_base.specs.Text.{Text, text_cmp, root, depth, parent, is_in, is_root, name_of, same_text}
use Rattle.rk_base.specs.Canonical.{is_empty}
use Rattle.rk_folder.specs.declared.folder.Item.{Item}
use Rattle.rk_folder.specs.declared.folder.Item.TheVariants as item
use Rattle.rk_folder.specs.declared.folder.Standing.{Standing}
use Rattle.rk_folder.specs.declared.folder.Standing.TheVariants.{File, Dir, Special}

abbrev pub Places : Type 0
Places = FinMap text_cmp Standing

pub record Held : Type 0 where
  pub places : Places
  pub odd : List Text

-- a folder reads no file of more bytes
abbrev pub longest_file : ℕ
longest_file = 2 ^ 32

abbrev pub standing : Held → Text → Option Standing
standing held path = get held.places path

abbrev pub is_file : Option Standing → Bool
is_file None = false
is_file (Some (File bytes)) = true
is_file (Some Dir) = false
is_file (Some Special) = false

abbrev pub is_dir : Option Standing → Bool
is_dir None = false
is_dir (Some (File bytes)) = false
is_dir (Some Dir) = true
is_dir (Some Special) = false

abbrev pub is_nothing : Option Standing → Bool
is_nothing None = true
is_nothing (Some it) = false

abbrev pub is_file_or_nothing : Option Standing → Bool
is_file_or_nothing None = true
is_file_or_nothing (Some (File bytes)) = true
is_file_or_nothing (Some Dir) = false
is_file_or_nothing (Some Special) = false

abbrev pub bytes_in : Option Standing → Option Text
bytes_in None = None
bytes_in (Some (File bytes)) = Some bytes
bytes_in (Some Dir) = None
bytes_in (Some Special) = None

-- What a listing tells: what stands in the directory, ascending, and whether a name there is none.

abbrev pub item_of : Text → Standing → Item
item_of name (File bytes) = item.File name
item_of name Dir = item.Dir name
item_of name Special = item.Special name

abbrev pub item_in : Text → Text × Standing → Option Item
item_in dir row = if is_in dir row.0 then Some (item_of (name_of row.0) row.1) else None

-- a directory that holds a name which is none
abbrev pub is_odd : Text → List Text → Bool
is_odd dir odd = list_any (λ d. same_text d dir) odd

abbrev pub odd_in : List Text → Text → List Item
odd_in odd dir = if is_odd dir odd then item.Odd ∷ [] else []

abbrev pub items_of : Held → Text → List Item
items_of held dir = filter_map (item_in dir) (entries held.places) ++ odd_in held.odd dir

-- How deep it reaches.

abbrev pub deepest : List (Text × Standing) → ℕ
deepest [] = 0
deepest (row ∷ rows) = max (depth row.0) (deepest rows)

-- how many names its deepest path has
abbrev pub reach_of : Held → ℕ
reach_of held = deepest (entries held.places)

-- Which calls a folder allows.

abbrev pub can_list : Text → Held → Bool
can_list dir held = is_dir (standing held dir)

-- a file, or nothing
abbrev pub can_read : Text → Held → Bool
can_read path held = is_file_or_nothing (standing held path)

abbrev pub can_hold : Option Standing → Bool → Bool
can_hold None in_dir = in_dir
can_hold (Some (File bytes)) in_dir = true
can_hold (Some Dir) in_dir = false
can_hold (Some Special) in_dir = false

-- to a file, or to nothing in a directory
abbrev pub can_write : Text → Held → Bool
can_write path held = can_hold (standing held path) (is_dir (standing held (parent path)))

abbrev pub can_make_dir : Text → Held → Bool
can_make_dir path held = is_nothing (standing held path) && is_dir (standing held (parent path))

abbrev pub can_remove_file : Text → Held → Bool
can_remove_file path held = is_file (standing held path)

-- a directory in which nothing is listed, but the root
abbrev pub can_remove_dir : Text → Held → Bool
can_remove_dir path held = is_dir (standing held path) && not (is_root path) && is_empty (items_of held path)

-- a file, to a file or to nothing in a directory
abbrev pub can_rename : Text → Text → Held → Bool
can_rename from to held = can_remove_file from held && can_write to held

-- What they leave.

-- a folder in which nothing stands but its root
abbrev pub root_alone : Held
root_alone = record { places = insert empty root Dir; odd = [] }

abbrev pub with_standing : Text → Standing → Held → Held
with_standing path it held = record held { places = insert held.places path it }

abbrev pub without : Text → Held → Held
without path held = record held { places = remove held.places path }

abbrev pub with_any : Text → Option Standing → Held → Held
with_any path None held = held
with_any path (Some it) held = with_standing path it held

abbrev pub renamed : Text → Text → Held → Held
renamed from to held = with_any to (standing held from) (without from held)

abbrev pub with_odd : Text → Held → Held
with_odd dir held = record held { odd = held.odd ++ dir ∷ [] }
