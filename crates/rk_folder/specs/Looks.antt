-- What is asked of a folder to look at what it holds.
use Rattle.std.specs.Prelude.{zero, suc, ◌++◌, ◌∷◌, [], ℕ, List, Bool, Option, IfSome, flat_map, if◌then◌else◌}
use Rattle.rk_base.specs.Text.{Text, root, join, same_text}
use Rattle.rk_folder.specs.Told.{Held, standing, is_dir, items_of}
use Rattle.rk_folder.specs.Hidden.{hidden_dir, attrs_file, db_file, install_file}
use Rattle.rk_folder.specs.Schedule.{Schedule, MakesCalls}
use Rattle.rk_folder.specs.declared.folder.FolderCall.{FolderCall}
use Rattle.rk_folder.specs.declared.folder.FolderCall.TheVariants as asks
use Rattle.rk_folder.specs.declared.folder.Item.{Item}
use Rattle.rk_folder.specs.declared.folder.Item.TheVariants as item

-- one listing, one read, and one removal
abbrev pub lists : Text → List FolderCall
lists dir = asks.List dir ∷ []

abbrev pub reads : Text → List FolderCall
reads file = asks.Read file ∷ []

abbrev pub removes : Text → List FolderCall
removes file = asks.RemoveFile file ∷ []

-- for an item of a directory, by what another directory takes: a directory is listed with what is in it; of `.rkr` there is only
-- the listing
abbrev pub item_looks : (Text → List FolderCall) → Text → Item → List FolderCall
item_looks within dir (item.File name) = []
item_looks within dir (item.Dir name) = if same_text (join dir name) hidden_dir then lists hidden_dir else within (join dir name)
item_looks within dir (item.Special name) = []
item_looks within dir item.Odd = []

-- so many names deep, a directory is listed, and then what is listed in it is looked at, in the order of the listing
unfoldable pub looks_within : ℕ → Held → Text → List FolderCall
looks_within zero held dir = lists dir
looks_within (suc more) held dir = lists dir ++ flat_map (item_looks (looks_within more held) dir) (items_of held dir)

-- a file is read, or passed over
abbrev pub reads_unless : Bool → Text → List FolderCall
reads_unless passed file = if passed then [] else reads file

-- of the state files three are read; the database may be passed over
abbrev pub state_reads : Bool → List FolderCall
state_reads skips_db = reads attrs_file ++ (reads_unless skips_db db_file ++ reads install_file)

-- where `.rkr` stands, each state file is read
abbrev pub state_looks : Bool → Held → List FolderCall
state_looks skips_db held = if is_dir (standing held hidden_dir) then state_reads skips_db else []

-- a listing of each directory, and then a read of each state file
abbrev pub looks : Bool → ℕ → Held → List FolderCall
looks skips_db reach held = looks_within (suc reach) held root ++ state_looks skips_db held

-- the state files alone: the root and `.rkr` are listed, and where `.rkr` stands, the files are read
abbrev pub state_listings : List FolderCall
state_listings = lists root ++ lists hidden_dir

abbrev pub all_state_looks : List FolderCall
all_state_looks = state_listings ++ (reads attrs_file ++ (reads db_file ++ reads install_file))

-- a folder that tells what it holds, and its schedule, was asked for some of these calls and for no other
abbrev pub LooksInOrder : Option Held → (Held → List FolderCall) → Option Schedule → Option Schedule → Type 0
LooksInOrder told all before now = IfSome told (λ held. MakesCalls (all held) before now)
