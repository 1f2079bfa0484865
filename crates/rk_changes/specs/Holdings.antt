-- What a folder holds, by its entries, whether the hidden directory stands, and its state files.
use Rattle.std.specs.Prelude.{◌≡◌, ◌≢◌, ◌⊎◌, Bool, true, false, if◌then◌else◌, Option, Some, None, option_map, is_some}
use Rattle.std.specs.FinMap.{get}
use Rattle.std.specs.List.{list_all}
use Rattle.rk_base.specs.Text.{Text, is_within}
pub use Rattle.rk_folder.specs.Hidden.{hidden_dir, attrs_file, db_file}
use Rattle.rk_folder.specs.Hidden.{install_file, fresh_list_file}
use Rattle.rk_folder.specs.Told.{Held, is_file, is_file_or_nothing, standing}
use Rattle.rk_folder.specs.declared.folder.Standing.{Standing}
use Rattle.rk_folder.specs.declared.folder.Standing.TheVariants.{File, Dir}
use Rattle.rk_folder.specs.Whole.{IsWhole}
use Rattle.rk_tree.specs.Content.{bytes_of}
use Rattle.rk_tree.specs.Entries.{IsWholeSnapshot}
use Rattle.rk_tree.specs.Full.{Told, full_entries}
use Rattle.rk_tree.specs.Node.{Node as Entry}
use Rattle.rk_tree.specs.Node as entry
use Rattle.rk_changes.specs.declared.holding.Holding.{Holding}

-- what an entry is in a folder: a link isn't there
abbrev pub placed : Option Entry → Option Standing
placed None = None
placed (Some (entry.File mode content)) = Some (File (bytes_of content))
placed (Some (entry.Dir mode)) = Some Dir
placed (Some (entry.Link text)) = None

abbrev pub dir_where : Bool → Option Standing
dir_where stands = if stands then Some Dir else None

-- the folder holds just this
pub record Holds (held : Held) (holding : Holding) : Type 0 where
  -- no entry is at the hidden directory or below it
  pub unseen : (path : Text) → is_within hidden_dir path ≡ true → get holding.entries path ≡ None
  -- the entries elsewhere
  pub outside : (path : Text) → is_within hidden_dir path ≡ false → standing held path ≡ placed (get holding.entries path)
  -- whether the hidden directory stands, and its state files
  pub rkr : standing held hidden_dir ≡ dir_where holding.rkr
  pub db : standing held db_file ≡ option_map File holding.state.db
  pub attrs : standing held attrs_file ≡ option_map File holding.state.attrs

-- the folder that calls lead to: it holds just this, and all else as before, what stands below the hidden directory and the
-- directories with odd names
pub record IsLed (old new : Held) (holding : Holding) : Type 0 where
  pub holds : Holds new holding
  pub below : (path : Text) → is_within hidden_dir path ≡ true → path ≢ hidden_dir → path ≢ db_file → path ≢ attrs_file → standing new path ≡ standing old path
  pub odd : new.odd ≡ old.odd

-- all else that a folder holds is as before: what stands below the hidden directory, but for the state files, and the directories
-- with odd names
pub record SameElse (old new : Held) : Type 0 where
  pub below : (path : Text) → is_within hidden_dir path ≡ true → path ≢ hidden_dir → path ≢ db_file → path ≢ attrs_file → path ≢ install_file → path ≢ fresh_list_file → standing new path ≡ standing old path
  pub odd : new.odd ≡ old.odd

-- The folder afterwards. No list of calls stands that isn't sealed; and no sealed one, unless nothing was installed over it.
pub record IsAfter (old new : Held) (holding : Holding) : Type 0 where
  pub holds : Holds new holding
  pub same_else : SameElse old new
  pub draft : standing new fresh_list_file ≡ None
  pub list : (standing new install_file ≡ None) ⊎ (standing new install_file ≡ standing old install_file)

-- what a build leaves: a whole snapshot, the hidden directory and a database
pub record IsBuilt (holding : Holding) : Type 0 where
  pub entries : IsWholeSnapshot holding.entries
  pub rkr : holding.rkr ≡ true
  pub db : is_some holding.state.db ≡ true

-- what it holds, with these bytes of a database
abbrev pub with_db : Option Text → Holding → Holding
with_db db it = record { entries = it.entries; rkr = it.rkr; state = record { db = db; attrs = it.state.attrs; install = it.state.install; fresh_list = it.state.fresh_list } }

-- a folder that may become what a build leaves
pub record MayBecome (held : Held) (before after : Holding) : Type 0 where
  pub whole : IsWhole held
  -- the bytes of the database that stands, which may have been passed over, and all else that the folder holds
  pub db : Option Text
  pub holds : Holds held (with_db db before)
  pub read : (before.state.db ≡ None) ⊎ (before.state.db ≡ db)
  -- odd names are hidden
  pub odd : list_all (λ dir. is_within hidden_dir dir) held.odd ≡ true
  pub built : IsBuilt after

-- In the places of a list of calls stand files alone, or nothing; and it is known whether one stands that isn't sealed.
pub record HasPlaces (held : Held) (before : Holding) : Type 0 where
  pub list : is_file_or_nothing (standing held install_file) ≡ true
  pub draft : is_file_or_nothing (standing held fresh_list_file) ≡ true
  pub fresh_list : before.state.fresh_list ≡ is_file (standing held fresh_list_file)

-- both hold the same
pub record Agree (before after : Holding) : Type 0 where
  pub entries : (path : Text) → placed (get before.entries path) ≡ placed (get after.entries path)
  pub rkr : before.rkr ≡ after.rkr
  pub db : before.state.db ≡ after.state.db
  pub attrs : before.state.attrs ≡ after.state.attrs

-- what it holds in full: each file with its bytes as they are told
abbrev pub full_holding : Told → Holding → Holding
full_holding told holding = record { entries = full_entries told holding.entries; rkr = holding.rkr; state = holding.state }
