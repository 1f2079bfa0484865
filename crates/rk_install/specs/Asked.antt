-- What an install asks of a folder.
use Rattle.std.specs.Prelude.{◌≡◌, ◌⊎◌, ◌++◌, map, List, [], ◌∷◌, Bool, true, false, Option, Some, None, option_map, Result, Ok, Err, if◌then◌else◌}
use Rattle.std.specs.List.{list_any}
use Rattle.rk_folder.specs.Hidden.{hidden_dir, install_file, fresh_list_file}
use Rattle.rk_folder.specs.Schedule.{Schedule, after_call}
use Rattle.rk_folder.specs.declared.folder.FolderCall.{FolderCall}
use Rattle.rk_folder.specs.declared.folder.FolderCall.TheVariants as asks
use Rattle.rk_seal.specs.declared.ops.Op.{Op}
use Rattle.rk_seal.specs.declared.ops.Op.TheVariants.{RemoveFile, RemoveDir, MakeDir, Write}
use Rattle.rk_seal.specs.declared.plan.Plan.{Plan}
use Rattle.rk_install.specs.Install.{makes_hidden, others}
use Rattle.rk_install.specs.declared.calling.InstallErr.{InstallErr}
use Rattle.rk_install.specs.declared.calling.InstallErr.TheVariants.{WriteFault, NoMemory}

-- what a call asks of the folder
abbrev pub asked_by : Op → FolderCall
asked_by (RemoveFile path) = asks.RemoveFile path
asked_by (RemoveDir path) = asks.RemoveDir path
asked_by (MakeDir path) = asks.MakeDir path
asked_by (Write path bytes) = asks.Write path

abbrev pub calls_of : List Op → List FolderCall
calls_of ops = map asked_by ops

-- the making of the hidden directory, where that is among the calls
abbrev pub hidden_calls : List Op → List FolderCall
hidden_calls ops = if list_any makes_hidden ops then asks.MakeDir hidden_dir ∷ [] else []

-- a call that isn't that
abbrev pub other_calls : Op → List FolderCall
other_calls op = if makes_hidden op then [] else asked_by op ∷ []

-- The hidden directory is made; the list is written, and sealed by a rename; then come the other calls, and the seal is taken
-- away.
abbrev pub install_calls : List Op → List FolderCall
install_calls ops =
    hidden_calls ops
    ++ asks.Write fresh_list_file ∷ asks.Rename fresh_list_file install_file ∷ (calls_of (others ops) ++ asks.RemoveFile install_file ∷ [])

-- of no calls, a list that isn't sealed is removed, where one stands
abbrev pub clearing_calls : Bool → List FolderCall
clearing_calls fresh_list = if fresh_list then asks.RemoveFile fresh_list_file ∷ [] else []

abbrev pub calls_by : Option (List Op) → Bool → List FolderCall
calls_by None fresh_list = clearing_calls fresh_list
calls_by (Some ops) fresh_list = install_calls ops

-- what a plan asks of the folder
abbrev pub plan_calls : Plan → List FolderCall
plan_calls plan = calls_by plan.calls plan.fresh_list

-- once each was made
abbrev pub asked_all : List FolderCall → Schedule → Schedule
asked_all [] schedule = schedule
asked_all (call ∷ calls) schedule = asked_all calls (after_call (call, true) schedule)

-- a call failed so, and is kept unless it had no memory
abbrev pub FailedCall : InstallErr → FolderCall → Option Schedule → Option Schedule → Type 0
FailedCall WriteFault call before now = now ≡ option_map (after_call (call, true)) before
FailedCall NoMemory call before now = (now ≡ option_map (after_call (call, true)) before) ⊎ (now ≡ option_map (after_call (call, false)) before)

-- a call was made
abbrev pub IsAsked : {T : Type 0} → FolderCall → Option Schedule → Option Schedule → Result T InstallErr → Type 0
IsAsked call before now (Ok it) = now ≡ option_map (after_call (call, true)) before
IsAsked call before now (Err e) = FailedCall e call before now

-- once those up to one of them were made, of which the last failed so
abbrev pub StopsAt : InstallErr → List FolderCall → Option Schedule → Option Schedule → Type 0
StopsAt e [] before now = ⊥
StopsAt e (call ∷ calls) before now = FailedCall e call before now ⊎ StopsAt e calls (option_map (after_call (call, true)) before) now

-- each call was made once, in their order; at an error up to the one that failed
abbrev pub CallsInOrder : {T : Type 0} → List FolderCall → Option Schedule → Option Schedule → Result T InstallErr → Type 0
CallsInOrder calls before now (Ok it) = now ≡ option_map (asked_all calls) before
CallsInOrder calls before now (Err e) = StopsAt e calls before now

-- the same, or none was made for want of memory that isn't a call's
abbrev pub CallsOrNone : {T : Type 0} → List FolderCall → Option Schedule → Option Schedule → Result T InstallErr → Type 0
CallsOrNone calls before now (Ok it) = now ≡ option_map (asked_all calls) before
CallsOrNone calls before now (Err WriteFault) = StopsAt WriteFault calls before now
CallsOrNone calls before now (Err NoMemory) = (now ≡ before) ⊎ StopsAt NoMemory calls before now
