-- The calls that lead from what a folder holds to what it is to hold.
use Rattle.std.specs.Prelude.{◌≡◌, ◌≢◌, ◌⊎◌, List, [], ◌∷◌, ◌++◌, reverse, Bool, true, false, not, ◌&&◌, if◌then◌else◌, Option, Some, None, All}
use Rattle.std.specs.List.{filter_map}
use Rattle.std.specs.FinMap.{entries, get}
use Rattle.rk_base.specs.Text.{Text, same_text}
use Rattle.rk_folder.specs.Told.{Held, is_file, is_dir, standing}
use Rattle.rk_folder.specs.declared.folder.Standing.{Standing}
use Rattle.rk_folder.specs.declared.folder.Standing.TheVariants.{File, Dir, Special}
use Rattle.rk_tree.specs.Content.{bytes_of}
use Rattle.rk_tree.specs.Entries.{Entries}
use Rattle.rk_tree.specs.Node.{Node as Entry}
use Rattle.rk_tree.specs.Node as entry
use Rattle.rk_seal.specs.declared.ops.Op.{Op}
use Rattle.rk_seal.specs.declared.ops.Op.TheVariants.{RemoveFile, RemoveDir, MakeDir, Write}
use Rattle.rk_changes.specs.declared.holding.Holding.{Holding}
use Rattle.rk_seal.specs.Ops.{path_of}
use Rattle.rk_seal.specs.Plans.{plan_of}
use Rattle.rk_seal.specs.declared.plan.Plan.{Plan}
use Rattle.rk_seal.specs.Effects.{after_all, AllowsAll, left_by}
use Rattle.rk_changes.specs.Holdings.{placed, hidden_dir, attrs_file, db_file, MayBecome, IsLed}

-- what stood is taken away where nothing of its kind stands there afterwards
abbrev pub removal : Text → Entry → Option Standing → Option Op
removal path (entry.File mode content) after = if is_file after then None else Some (RemoveFile path)
removal path (entry.Dir mode) after = if is_dir after then None else Some (RemoveDir path)
removal path (entry.Link text) after = None

-- a directory is made where none stood before
abbrev pub making : Text → Entry → Option Standing → Option Op
making path (entry.File mode content) before = None
making path (entry.Dir mode) before = if is_dir before then None else Some (MakeDir path)
making path (entry.Link text) before = None

abbrev pub is_bytes : Text → Option Text → Bool
is_bytes bytes None = false
is_bytes bytes (Some old) = same_text old bytes

abbrev pub is_file_of : Text → Option Standing → Bool
is_file_of bytes None = false
is_file_of bytes (Some (File old)) = same_text old bytes
is_file_of bytes (Some Dir) = false
is_file_of bytes (Some Special) = false

-- a file is written where none of its bytes stood before

abbrev pub written : Text → Text → Option Standing → Option Op
written path bytes before = if is_file_of bytes before then None else Some (Write path bytes)

abbrev pub writing : Text → Entry → Option Standing → Option Op
writing path (entry.File mode content) before = written path (bytes_of content) before
writing path (entry.Dir mode) before = None
writing path (entry.Link text) before = None

abbrev pub removal_of : Entries → Text × Entry → Option Op
removal_of after row = removal row.0 row.1 (placed (get after row.0))

abbrev pub making_of : Entries → Text × Entry → Option Op
making_of before row = making row.0 row.1 (placed (get before row.0))

abbrev pub writing_of : Entries → Text × Entry → Option Op
writing_of before row = writing row.0 row.1 (placed (get before row.0))

-- the hidden directory is made where it doesn't stand
abbrev pub hidden_making : Bool → Bool → List Op
hidden_making before after = if after && not before then MakeDir hidden_dir ∷ [] else []

-- a state file is written where it had other bytes
abbrev pub state_writing : Text → Option Text → Text → List Op
state_writing path before bytes = if is_bytes bytes before then [] else Write path bytes ∷ []

abbrev pub attrs_calls : Option Text → Option Text → List Op
attrs_calls None None = []
attrs_calls (Some old) None = RemoveFile attrs_file ∷ []
attrs_calls before (Some bytes) = state_writing attrs_file before bytes

abbrev pub db_calls : Option Text → Option Text → List Op
db_calls before None = []
db_calls before (Some bytes) = state_writing db_file before bytes

-- Removals, descending by path; directories made, ascending; files written, ascending; the hidden
-- directory; attrs written or removed; db written.
abbrev pub planned : Holding → Holding → List Op
planned before after =
    reverse (filter_map (removal_of after.entries) (entries before.entries))
    ++ filter_map (making_of before.entries) (entries after.entries)
    ++ filter_map (writing_of before.entries) (entries after.entries)
    ++ hidden_making before.rkr after.rkr
    ++ attrs_calls before.state.attrs after.state.attrs
    ++ db_calls before.state.db after.state.db

-- those before the files, and those after them

abbrev pub front_calls : Holding → Holding → List Op
front_calls before after = reverse (filter_map (removal_of after.entries) (entries before.entries)) ++ filter_map (making_of before.entries) (entries after.entries)

abbrev pub back_calls : Holding → Holding → List Op
back_calls before after = hidden_making before.rkr after.rkr ++ attrs_calls before.state.attrs after.state.attrs ++ db_calls before.state.db after.state.db

-- the plan between them, where there is one
abbrev pub IsPlan : Holding → Holding → Plan → Type 0
IsPlan before after plan = plan_of (planned before after) before.state.fresh_list ≡ Some plan

-- each folder that may become the one from the other allows the calls, one after another
abbrev pub AreAllowed : List Op → Holding → Holding → Type 0
AreAllowed ops before after = (held : Held) → MayBecome held before after → AllowsAll ops held

-- and they lead to what the folder is to hold
abbrev pub LeadTo : List Op → Holding → Holding → Type 0
LeadTo ops before after = (held : Held) → MayBecome held before after → IsLed held (after_all ops held) after

-- a call leaves something else at its path than the folder holds there
abbrev pub IsNeeded : Held → Op → Type 0
IsNeeded held op = left_by op ≢ standing held (path_of op)

-- a database stands, and was passed over; what is in it isn't known
abbrev pub IsPassed : Held → Holding → Op → Type 0
IsPassed held before op = (path_of op ≡ db_file) × (is_file (standing held db_file) ≡ true) × (before.state.db ≡ None)

-- each of them changes what stands at its path, or writes a database anew that was passed over
abbrev pub AreNeeded : List Op → Holding → Holding → Type 0
AreNeeded ops before after = (held : Held) → MayBecome held before after → All (λ op. IsNeeded held op ⊎ IsPassed held before op) ops
