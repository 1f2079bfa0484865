-- What a folder is to a build: its files and directories outside `.rkr`, and its state files.
use Rattle.std.specs.Prelude.{◌≡◌, ◌≤◌, ℕ, Bool, true, Option, Some, None, IfSome, is_some, option_map, Result, Ok, Err, if◌then◌else◌}
use Rattle.std.specs.List.{filter_map}
use Rattle.std.specs.FinMap.{entries}
use Rattle.rk_base.specs.Text.{Text, is_within}
use Rattle.rk_tree.specs.Entries.{Entries}
use Rattle.rk_tree.specs.Full.{Told, EntriesFrom, full_entries}
use Rattle.rk_tree.specs.declared.content.Content.TheVariants.{Own, Unread}
use Rattle.rk_tree.specs.Rows.{map_of}
use Rattle.rk_tree.specs.Node.{Node as Entry}
use Rattle.rk_tree.specs.Node as entry
use Rattle.rk_attrs.specs.Rows.{file_mode, dir_mode}
use Rattle.rk_folder.specs.Counts.{Rose}
use Rattle.rk_folder.specs.Told.{Held, standing, is_dir, is_file, bytes_in}
use Rattle.rk_folder.specs.Hidden.{hidden_dir, attrs_file, db_file, install_file, fresh_list_file}
use Rattle.rk_folder.specs.Specials.{first_special}
use Rattle.rk_folder.specs.declared.folder.Standing.{Standing}
use Rattle.rk_folder.specs.declared.folder.Standing.TheVariants.{File, Dir, Special}
use Rattle.rk_folder.specs.declared.importing.ImportErr.{ImportErr}
use Rattle.rk_folder.specs.declared.importing.ImportErr.TheVariants as err
use Rattle.rk_folder.specs.declared.hidden_files.Hidden.{Hidden}
use Rattle.rk_folder.specs.declared.hidden_files.State.{State}

-- a file and a directory have their default modes, 0644 and 0755
abbrev pub entry_of : Standing → Option Entry
entry_of (File bytes) = Some (entry.File file_mode (Own bytes))
entry_of Dir = Some (entry.Dir dir_mode)
entry_of Special = None

abbrev pub imported : Text × Standing → Option (Text × Entry)
imported row = if is_within hidden_dir row.0 then None else option_map (λ it. (row.0, it)) (entry_of row.1)

-- the files and directories outside `.rkr`
abbrev pub snapshot_of : Held → Entries
snapshot_of held = map_of (filter_map imported (entries held.places))

-- What listings tell of them: a file stands there, whose bytes are at its path.

abbrev pub listed_entry : Text → Standing → Option Entry
listed_entry path (File bytes) = Some (entry.File file_mode (Unread path))
listed_entry path Dir = Some (entry.Dir dir_mode)
listed_entry path Special = None

abbrev pub listed_row : Text × Standing → Option (Text × Entry)
listed_row row = if is_within hidden_dir row.0 then None else option_map (λ it. (row.0, it)) (listed_entry row.0 row.1)

abbrev pub listed_of : Held → Entries
listed_of held = map_of (filter_map listed_row (entries held.places))

-- the bytes of each file that is listed
abbrev pub told_row : Text × Standing → Option (Text × Text)
told_row row = if is_within hidden_dir row.0 then None else option_map (λ bytes. (row.0, bytes)) (bytes_in (Some row.1))

unfoldable pub told_of : Held → Told
told_of held = map_of (filter_map told_row (entries held.places))

-- In full that is what stands there, and each file can be read.
abbrev pub ListedInFull : Type 0
ListedInFull = (held : Held) → (full_entries (told_of held) (listed_of held) ≡ snapshot_of held) × EntriesFrom (Some (told_of held)) (listed_of held)

-- whether `.rkr` stands, the bytes of the state files that stand, and whether a list stands that isn't sealed yet
abbrev pub state_of : Held → Hidden
state_of held = record {
  rkr = is_dir (standing held hidden_dir);
  state = record {
    db = bytes_in (standing held db_file);
    attrs = bytes_in (standing held attrs_file);
    install = bytes_in (standing held install_file);
    fresh_list = is_file (standing held fresh_list_file);
  };
}

-- the state files that are read: all of them, or all but the database
abbrev pub read_state : Bool → State → State
read_state skips_db state = record {
  db = if skips_db then None else state.db;
  attrs = state.attrs;
  install = state.install;
  fresh_list = state.fresh_list;
}

-- whether `.rkr` stands, and the bytes of the state files that are read
abbrev pub hidden_read : Bool → Held → Hidden
hidden_read skips_db held = record { rkr = (state_of held).rkr; state = read_state skips_db (state_of held).state }

-- whether a database stands
abbrev pub has_database : Held → Bool
has_database held = is_some (bytes_in (standing held db_file))

-- Where the folder tells what it holds: Ok only where nothing is special, with what is true of it then,
-- and Special only with the first that is.
abbrev pub Tells : {T : Type 0} → Option Held → (Held → Option Text) → (Held → T → Type 0) → Result T ImportErr → Type 0
Tells told special P (Ok it) = IfSome told (λ held. (special held ≡ None) × P held it)
Tells told special P (Err (err.Special path)) = IfSome told (λ held. special held ≡ Some path)
Tells told special P (Err err.ReadFault) = Unit {0}
Tells told special P (Err err.NoMemory) = Unit {0}

-- a read fault comes only where the count of them rose, and it rises at nothing else
abbrev pub ReadCaused : {T : Type 0} → ℕ → ℕ → Result T ImportErr → Type 0
ReadCaused before now (Ok it) = now ≡ before
ReadCaused before now (Err (err.Special path)) = now ≡ before
ReadCaused before now (Err err.ReadFault) = (before ≤ now) × Rose before now
ReadCaused before now (Err err.NoMemory) = now ≡ before

-- an import that ends otherwise than by want of memory had no call that wanted any
abbrev pub MemoryCounted : {T : Type 0} → ℕ → ℕ → Result T ImportErr → Type 0
MemoryCounted before now (Ok it) = now ≡ before
MemoryCounted before now (Err (err.Special path)) = now ≡ before
MemoryCounted before now (Err err.ReadFault) = now ≡ before
MemoryCounted before now (Err err.NoMemory) = before ≤ now

abbrev pub IsNoReadFault : {T : Type 0} → Result T ImportErr → Type 0
IsNoReadFault (Ok it) = Unit {0}
IsNoReadFault (Err (err.Special path)) = Unit {0}
IsNoReadFault (Err err.ReadFault) = ⊥
IsNoReadFault (Err err.NoMemory) = Unit {0}

-- a steady folder stays steady, and its import is no read fault
abbrev pub ReadSteadily : {T : Type 0} → Bool → Bool → Result T ImportErr → Type 0
ReadSteadily before now result = (now ≡ before) × (before ≡ true → IsNoReadFault result)

-- nothing is special
abbrev pub IsPlain : Held → Type 0
IsPlain held = first_special held ≡ None
