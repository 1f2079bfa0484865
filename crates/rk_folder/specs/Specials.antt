-- What of a folder can be no part of a build, and the first of it in the order of the listings.
use Rattle.std.specs.Prelude.{List, map, Bool, true, false, ◌&&◌, ◌||◌, Option, Some, None, if◌then◌else◌}
use Rattle.std.specs.List.{filter}
use Rattle.std.specs.FinMap.{entries}
use Rattle.rk_base.specs.Text.{Text, is_within, same_text}
use Rattle.rk_folder.specs.Told.{Held, standing, is_dir, is_odd}
use Rattle.rk_folder.specs.Hidden.{hidden_dir, attrs_file, db_file, install_file, fresh_list_file}
use Rattle.rk_folder.specs.Listing.{first_listed}
use Rattle.rk_folder.specs.declared.folder.Standing.{Standing}
use Rattle.rk_folder.specs.declared.folder.Standing.TheVariants.{File, Dir, Special}

abbrev pub is_special : Option Standing → Bool
is_special None = false
is_special (Some (File bytes)) = false
is_special (Some Dir) = false
is_special (Some Special) = true

-- something stands, and it is no directory, or no file
abbrev pub is_other_than_dir : Option Standing → Bool
is_other_than_dir None = false
is_other_than_dir (Some (File bytes)) = true
is_other_than_dir (Some Dir) = false
is_other_than_dir (Some Special) = true

abbrev pub is_other_than_file : Option Standing → Bool
is_other_than_file None = false
is_other_than_file (Some (File bytes)) = false
is_other_than_file (Some Dir) = true
is_other_than_file (Some Special) = true

abbrev pub is_state_file : Text → Bool
is_state_file path = same_text path attrs_file || (same_text path db_file || (same_text path install_file || same_text path fresh_list_file))

-- `.rkr` is to be a directory, and each state file in it a file
abbrev pub is_hidden_fault : Text → Option Standing → Bool
is_hidden_fault path it = same_text path hidden_dir && is_other_than_dir it || is_state_file path && is_other_than_file it

-- elsewhere nothing is to be special, and no directory is to hold a name which is none
unfoldable pub is_fault : Held → Text → Bool
is_fault held path =
    if is_within hidden_dir path then is_hidden_fault path (standing held path) else is_special (standing held path) || is_dir (standing held path) && is_odd path held.odd

-- the paths at which something stands
abbrev pub paths_of : Held → List Text
paths_of held = map (λ row. row.0) (entries held.places)

unfoldable pub first_special : Held → Option Text
first_special held = first_listed (filter (is_fault held) (paths_of held))

-- What the state files alone are told by.

-- the first of two paths that is there
abbrev pub or_else : Option Text → Option Text → Option Text
or_else None second = second
or_else (Some path) second = Some path

-- what stands at a state file's path is to be a file
abbrev pub state_fault : Text → Option Standing → Option Text
state_fault path None = None
state_fault path (Some (File bytes)) = None
state_fault path (Some Dir) = Some path
state_fault path (Some Special) = Some path

-- the first state file that is special
abbrev pub state_special : Held → Option Text
state_special held =
    or_else (state_fault attrs_file (standing held attrs_file))
    (or_else (state_fault db_file (standing held db_file)) (or_else (state_fault install_file (standing held install_file)) (state_fault fresh_list_file (standing held fresh_list_file))))

abbrev pub hidden_fault : Option Standing → Option Text → Option Text
hidden_fault None state = None
hidden_fault (Some (File bytes)) state = Some hidden_dir
hidden_fault (Some Dir) state = state
hidden_fault (Some Special) state = Some hidden_dir

-- `.rkr` where it is no directory, else the first state file in it that is special
abbrev pub hidden_special : Held → Option Text
hidden_special held = hidden_fault (standing held hidden_dir) (state_special held)
