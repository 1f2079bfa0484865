-- An install that is sealed: what its calls lead to, and what a stop at any of them leaves.
use Rattle.std.specs.Prelude.{◌≡◌, ◌≢◌, ◌⊎◌, ◌<◌, ◌≤◌, ◌^◌, ℕ, List, length, Bool, true, false, not, Option, Some, None, IfSome, option_map, Result, Ok, Err, if◌then◌else◌}
use Rattle.std.specs.List.{filter, list_any}
use Rattle.rk_base.specs.Text.{Text, same_text}
use Rattle.rk_folder.specs.Hidden.{hidden_dir, install_file, fresh_list_file}
use Rattle.rk_folder.specs.Told.{Held, can_make_dir, can_remove_file, can_rename, can_write, is_dir, is_file_or_nothing, longest_file, renamed, standing, with_any, with_standing, without}
use Rattle.rk_folder.specs.Counts.{Rose}
use Rattle.rk_folder.specs.Whole.{IsWhole}
use Rattle.rk_folder.specs.declared.folder.Standing.TheVariants.{File, Dir}
use Rattle.rk_seal.specs.Ops.{are_calls}
use Rattle.rk_seal.specs.Spelling.{install_spelling}
use Rattle.rk_seal.specs.declared.ops.Op.{Op}
use Rattle.rk_seal.specs.declared.ops.Op.TheVariants.{RemoveFile, RemoveDir, MakeDir, Write}
use Rattle.rk_seal.specs.declared.plan.Plan.{Plan}
use Rattle.rk_install.specs.Calls.{AllowsAll, after_all, step}
use Rattle.rk_install.specs.Halfway.{IsFront, IsStopped}
use Rattle.rk_install.specs.Recovery.{IsSealed, sealed_in, unsealed}
use Rattle.rk_install.specs.declared.calling.InstallErr.{InstallErr}
use Rattle.rk_install.specs.declared.calling.InstallErr.TheVariants.{WriteFault, NoMemory}
use Rattle.rk_install.specs.declared.installation.SealOps.{SealOps}

-- the making of the hidden directory comes first, since the list is written there
abbrev pub makes_hidden : Op → Bool
makes_hidden (RemoveFile path) = false
makes_hidden (RemoveDir path) = false
makes_hidden (MakeDir path) = same_text path hidden_dir
makes_hidden (Write path bytes) = false

-- the calls after it
abbrev pub others : List Op → List Op
others ops = filter (λ op. not (makes_hidden op)) ops

-- what one of them makes of the folder; the making of the hidden directory is passed over
abbrev pub step_other : Op → Held → Held
step_other op held = if makes_hidden op then held else step op held

-- the hidden directory stands
abbrev pub rooted : List Op → Held → Held
rooted ops held = if list_any makes_hidden ops then with_standing hidden_dir Dir held else held

-- the list is written, under a name that isn't its own
abbrev pub drafted : List Op → Held → Held
drafted ops held = with_standing fresh_list_file (File (install_spelling ops)) (rooted ops held)

-- it is sealed by a rename
abbrev pub sealed : List Op → Held → Held
sealed ops held = renamed fresh_list_file install_file (drafted ops held)

-- all calls were made, and the seal was taken away
abbrev pub installed : List Op → Held → Held
installed ops held = unsealed (after_all (others ops) (sealed ops held))

-- the folder allows what comes before the seal
pub record AllowsSeal (ops : List Op) (held : Held) : Type 0 where
  pub hidden : list_any makes_hidden ops ≡ true → can_make_dir hidden_dir held ≡ true
  pub draft : can_write fresh_list_file (rooted ops held) ≡ true
  pub seal : can_rename fresh_list_file install_file (drafted ops held) ≡ true

-- and each call after it
pub record AllowsInstall (ops : List Op) (held : Held) : Type 0 where
  pub first : AllowsSeal ops held
  pub calls : AllowsAll (others ops) (sealed ops held)
  pub unseal : can_remove_file install_file (after_all (others ops) (sealed ops held)) ≡ true

-- Nothing is sealed: all is as before, but that the hidden directory may stand, and in it a list that isn't sealed.
abbrev pub IsUnsealed : List Op → Held → Option Held → Type 0
IsUnsealed ops held new = (new ≡ Some held) ⊎ ((left : Option Text) × (new ≡ Some (with_any fresh_list_file (option_map File left) (rooted ops held))))

-- that, or the list is sealed, and some of its calls were made
abbrev pub StopsSo : List Op → Held → Option Held → Type 0
StopsSo ops held new = IsUnsealed ops held new ⊎ IsStopped (others ops) (Some (sealed ops held)) new

-- A moment of an install, with no damage: nothing was done yet; the hidden directory stands; the list was written; or it was
-- sealed, and some of its calls were made.
abbrev pub IsMoment : List Op → Held → Option Held → Type 0
IsMoment ops held new = (new ≡ Some held) ⊎ ((new ≡ Some (rooted ops held)) ⊎ ((new ≡ Some (drafted ops held)) ⊎ IsFront (others ops) (Some (sealed ops held)) new))

-- these are the calls around those of the list
pub record IsSealOps (ops : List Op) (around : SealOps) : Type 0 where
  pub making : around.making ≡ MakeDir hidden_dir
  pub draft : around.draft ≡ Write fresh_list_file (install_spelling ops)
  pub fresh : around.fresh ≡ fresh_list_file
  pub seal : around.seal ≡ install_file
  pub unsealing : around.unsealing ≡ RemoveFile install_file

-- want of memory: before any call, or the folder's count of it rose
abbrev pub OwnOrCaused : {T : Type 0} → Option Held → Option Held → ℕ → ℕ → Result T InstallErr → Type 0
OwnOrCaused old new before now (Ok it) = now ≡ before
OwnOrCaused old new before now (Err WriteFault) = now ≡ before
OwnOrCaused old new before now (Err NoMemory) = ((new ≡ old) × (now ≡ before)) ⊎ ((before ≤ now) × Rose before now)

-- the list's spelling is no longer than what a folder reads; of no calls there is none
abbrev pub IsReadable : Option (List Op) → Type 0
IsReadable None = Unit {0}
IsReadable (Some ops) = length (install_spelling ops) ≤ longest_file

-- a longer list isn't written: there is no memory for it, and the folder isn't asked
abbrev pub ReadableOrNone : {T : Type 0} → Option (List Op) → ℕ → ℕ → Result T InstallErr → Type 0
ReadableOrNone calls before now (Ok it) = IsReadable calls
ReadableOrNone calls before now (Err WriteFault) = IsReadable calls
ReadableOrNone calls before now (Err NoMemory) = (now ≡ before) ⊎ IsReadable calls

-- Plans.

-- without a list that isn't sealed, where one stands
abbrev pub cleared : Bool → Held → Held
cleared true = without fresh_list_file
cleared false = λ held. held

-- what a plan leads to, by its calls
abbrev pub carried_out : Option (List Op) → Bool → Held → Held
carried_out None fresh_list = cleared fresh_list
carried_out (Some ops) fresh_list = installed ops

abbrev pub carried : Plan → Held → Held
carried plan = carried_out plan.calls plan.fresh_list

-- the folder allows it
abbrev pub AllowsCalls : Option (List Op) → Bool → Held → Type 0
AllowsCalls None fresh_list = λ held. fresh_list ≡ true → can_remove_file fresh_list_file held ≡ true
AllowsCalls (Some ops) fresh_list = AllowsInstall ops

abbrev pub AllowsPlan : Plan → Held → Type 0
AllowsPlan plan = AllowsCalls plan.calls plan.fresh_list

-- what a stop leaves: of no calls all is as before
abbrev pub StopsCalls : Option (List Op) → Held → Option Held → Type 0
StopsCalls None held new = new ≡ Some held
StopsCalls (Some ops) held new = StopsSo ops held new

abbrev pub StopsPlan : Plan → Held → Option Held → Type 0
StopsPlan plan = StopsCalls plan.calls

-- and where there was no memory
abbrev pub MomentOf : Option (List Op) → Held → Option Held → Type 0
MomentOf None held new = new ≡ Some held
MomentOf (Some ops) held new = IsMoment ops held new

abbrev pub IsMomentOf : Plan → Held → Option Held → Type 0
IsMomentOf plan = MomentOf plan.calls

-- Laws.

-- what is left sealed is halfway through the whole list, from the moment at which it was sealed
abbrev pub StopsSealed : Type 0
StopsSealed = (ops : List Op) (held : Held) (new : Option Held) → are_calls ops ≡ true → length (install_spelling ops) < 2 ^ 64 → IsWhole held → AllowsInstall ops held → IsStopped (others ops) (Some (sealed ops held)) new → IfSome new (IsSealed ops (sealed ops held))

-- and what all calls lead to is what the whole list leads to from there
abbrev pub LeadsSame : Type 0
LeadsSame = (ops : List Op) (held : Held) → are_calls ops ≡ true → IsWhole held → AllowsInstall ops held → installed ops held ≡ unsealed (after_all ops (sealed ops held))

-- where nothing is sealed, no list stands that stood not before
abbrev pub StaysUnsealed : Type 0
StaysUnsealed = (ops : List Op) (held : Held) (new : Option Held) → IsUnsealed ops held new → IfSome new (λ h. sealed_in h ≡ sealed_in held)

-- A folder that allows the calls of a list, one after another; the hidden directory stands, or is among them, and in it nothing
-- but files in the places of a list.
pub record MayInstall (ops : List Op) (held : Held) : Type 0 where
  pub whole : IsWhole held
  pub are : are_calls ops ≡ true
  pub calls : AllowsAll ops held
  pub list : is_file_or_nothing (standing held install_file) ≡ true
  pub draft : is_file_or_nothing (standing held fresh_list_file) ≡ true
  pub hidden : list_any makes_hidden ops ≡ false → is_dir (standing held hidden_dir) ≡ true

-- it allows their install
abbrev pub Allows : Type 0
Allows = (ops : List Op) (held : Held) → MayInstall ops held → AllowsInstall ops held

-- what the calls alone leave, but for the two places of a list, at which nothing stands
pub record IsInstalled (ops : List Op) (held new : Held) : Type 0 where
  pub same : (q : Text) → q ≢ install_file → q ≢ fresh_list_file → standing new q ≡ standing (after_all ops held) q
  pub list : standing new install_file ≡ None
  pub draft : standing new fresh_list_file ≡ None
  pub odd : new.odd ≡ held.odd

-- which leaves that
abbrev pub Leaves : Type 0
Leaves = (ops : List Op) (held : Held) → MayInstall ops held → IsInstalled ops held (installed ops held)
