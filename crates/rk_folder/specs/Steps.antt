-- What the parts of an import work on.
use Rattle.std.specs.Prelude.{◌≡◌, List, [], ◌∷◌, Bool, true, false, not, ◌&&◌, Option, Some, None, IfSome, is_some, if◌then◌else◌}
use Rattle.std.specs.FinMap.{empty, entries, get, insert}
use Rattle.std.specs.List.{filter, filter_map}
use Rattle.rk_base.specs.Text.{Text, root, hidden, join, is_within, same_text}
use Rattle.rk_base.specs.Canonical.{is_name}
use Rattle.rk_tree.specs.Entries as tree
use Rattle.rk_tree.specs.Entries.{Entries}
use Rattle.rk_tree.specs.Node.{Node as Entry}
use Rattle.rk_tree.specs.Node as entry
use Rattle.rk_folder.specs.Told.{Held, standing, is_dir, is_file, items_of}
use Rattle.rk_folder.specs.Listing.{first_listed}
use Rattle.rk_folder.specs.Specials.{is_special, is_fault, paths_of, or_else}
use Rattle.rk_folder.specs.Hidden.{hidden_dir, attrs_file, db_file, db_name, install_file, install_name, fresh_list_file, fresh_list_name}
use Rattle.rk_folder.specs.Import.{has_database, listed_row}
use Rattle.rk_folder.specs.declared.folder.Item.{Item}
use Rattle.rk_folder.specs.declared.folder.Item.TheVariants as item
use Rattle.rk_folder.specs.declared.folder.Standing.{Standing}
use Rattle.rk_folder.specs.declared.folder.FolderErr.{FolderErr}
use Rattle.rk_folder.specs.declared.folder.FolderErr.TheVariants as folder
use Rattle.rk_folder.specs.declared.hidden_listing.StateFile.{StateFile}
use Rattle.rk_folder.specs.declared.hidden_listing.StateFile.TheVariants as state
use Rattle.rk_folder.specs.declared.hidden_listing.Listed.{Listed}
use Rattle.rk_folder.specs.declared.hidden_files.Hidden.{Hidden}
use Rattle.rk_folder.specs.declared.importing.ImportErr.{ImportErr}
use Rattle.rk_folder.specs.declared.importing.ImportErr.TheVariants as err

-- these are the items of the root
abbrev pub ListsRoot : Option Held → List Item → Type 0
ListsRoot told items = IfSome told (λ held. items ≡ items_of held root)

-- the folder allows a call, where it tells what it holds
abbrev pub MayCall : Option Held → (Held → Bool) → Type 0
MayCall told test = IfSome told (λ held. test held ≡ true)

abbrev pub is_named : Text → Item → Bool
is_named name (item.File n) = same_text n name
is_named name (item.Dir n) = same_text n name
is_named name (item.Special n) = same_text n name
is_named name item.Odd = false

-- the first item of this name
abbrev pub item_named : Text → List Item → Option Item
item_named name [] = None
item_named name (it ∷ its) = if is_named name it then Some it else item_named name its

-- a directory is listed
abbrev pub is_dir_item : Option Item → Bool
is_dir_item None = false
is_dir_item (Some (item.File name)) = false
is_dir_item (Some (item.Dir name)) = true
is_dir_item (Some (item.Special name)) = false
is_dir_item (Some item.Odd) = false

abbrev pub is_odd_item : Item → Bool
is_odd_item (item.File n) = false
is_odd_item (item.Dir n) = false
is_odd_item (item.Special n) = false
is_odd_item item.Odd = true

-- what an item tells is so
abbrev pub agrees : Held → Text → Item → Bool
agrees held dir (item.File name) = is_name name && is_file (standing held (join dir name))
agrees held dir (item.Dir name) = is_name name && is_dir (standing held (join dir name))
agrees held dir (item.Special name) = is_name name && is_special (standing held (join dir name))
agrees held dir item.Odd = true

-- the first special at a path or below it
unfoldable pub first_within : Held → Text → Option Text
first_within held dir = first_listed (filter (λ q. is_within dir q && is_fault held q) (paths_of held))

-- the first special at an item of a directory or below it
abbrev pub special_in : Held → Text → Item → Option Text
special_in held dir (item.File name) = first_within held (join dir name)
special_in held dir (item.Dir name) = first_within held (join dir name)
special_in held dir (item.Special name) = first_within held (join dir name)
special_in held dir item.Odd = None

-- the first that the test gives
abbrev pub first_fault : (Item → Option Text) → List Item → Option Text
first_fault test [] = None
first_fault test (it ∷ its) = or_else (test it) (first_fault test its)

-- What is made of what stands within a directory.

-- an entry is put where no directory stands
unfoldable pub with_entry : Text → Entry → Entries → Entries
with_entry path it snapshot = if tree.is_dir (get snapshot path) then snapshot else insert snapshot path it

abbrev pub with_entries : List (Text × Entry) → Entries → Entries
with_entries [] snapshot = snapshot
with_entries (row ∷ rows) snapshot = with_entries rows (with_entry row.0 row.1 snapshot)

abbrev pub row_within : Text → Text × Standing → Option (Text × Entry)
row_within dir row = if is_within dir row.0 then listed_row row else None

unfoldable pub with_within : Held → Text → Entries → Entries
with_within held dir snapshot = with_entries (filter_map (row_within dir) (entries held.places)) snapshot

abbrev pub with_item : Held → Text → Entries → Item → Entries
with_item held dir snapshot (item.File name) = with_within held (join dir name) snapshot
with_item held dir snapshot (item.Dir name) = with_within held (join dir name) snapshot
with_item held dir snapshot (item.Special name) = with_within held (join dir name) snapshot
with_item held dir snapshot item.Odd = snapshot

abbrev pub with_items : Held → Text → Entries → List Item → Entries
with_items held dir snapshot [] = snapshot
with_items held dir snapshot (it ∷ its) = with_items held dir (with_item held dir snapshot it) its

-- the root, with nothing in it
abbrev pub root_entry : Entries
root_entry = insert empty root (entry.Dir 493)

abbrev pub nothing_special : Held → Option Text
nothing_special held = None

abbrev pub import_err : FolderErr → ImportErr
import_err folder.Failed = err.ReadFault
import_err folder.NoMemory = err.NoMemory

abbrev pub is_file_item : Item → Bool
is_file_item (item.File name) = true
is_file_item (item.Dir name) = false
is_file_item (item.Special name) = false
is_file_item item.Odd = false

-- something is listed, and it is no file
abbrev pub is_no_file : Option Item → Bool
is_no_file None = false
is_no_file (Some it) = not (is_file_item it)

-- the first state file that is special, by what is listed of their names
abbrev pub special_file : Option Item → Option Item → Option Item → Option Item → Option StateFile
special_file attrs db install fresh_list =
    if is_no_file attrs then Some state.Attrs else
    if is_no_file db then Some state.Db else
    if is_no_file install then Some state.Install else
    if is_no_file fresh_list then Some state.FreshList else None

abbrev pub file_path : StateFile → Text
file_path state.Attrs = attrs_file
file_path state.Db = db_file
file_path state.Install = install_file
file_path state.FreshList = fresh_list_file

-- What the listing of the hidden directory tells of its state files.

-- which of them are listed
abbrev pub listed_among : List Item → Listed
listed_among items = record {
  db = is_some (item_named db_name items);
  install = is_some (item_named install_name items);
  fresh_list = is_some (item_named fresh_list_name items);
}

abbrev pub has_db : Option Listed → Bool
has_db None = false
has_db (Some listed) = listed.db

-- which of them stand
abbrev pub listed_in : Held → Listed
listed_in held = record {
  db = has_database held;
  install = is_file (standing held install_file);
  fresh_list = is_file (standing held fresh_list_file);
}

-- where it is a directory
abbrev pub hidden_listed : Held → Option Listed
hidden_listed held = if is_dir (standing held hidden_dir) then Some (listed_in held) else None

-- the item of the root that it is
abbrev pub is_hidden_dir : Item → Bool
is_hidden_dir (item.File name) = false
is_hidden_dir (item.Dir name) = same_text name hidden
is_hidden_dir (item.Special name) = false
is_hidden_dir item.Odd = false

-- what an item of the root tells of them
abbrev pub listed_at : Held → Item → Option Listed
listed_at held it = if is_hidden_dir it then Some (listed_in held) else None

-- where it doesn't stand
abbrev pub nothing_found : Hidden
nothing_found = record { rkr = false; state = record { db = None; attrs = None; install = None; fresh_list = false } }

-- the latter of two, where there is one
abbrev pub newer : Option Listed → Option Listed → Option Listed
newer old None = old
newer old (Some it) = Some it

-- and what all items tell
abbrev pub listed_by : Held → Option Listed → List Item → Option Listed
listed_by held listed [] = listed
listed_by held listed (it ∷ its) = listed_by held (newer listed (listed_at held it)) its
