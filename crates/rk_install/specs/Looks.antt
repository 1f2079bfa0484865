-- What is looked at in a folder by its listings alone.
use Rattle.std.specs.Prelude.{◌≡◌, ◌≤◌, ℕ, List, [], ◌∷◌, Bool, true, false, ◌||◌, Option, Some, None, IfSome, Result, Ok, Err, if◌then◌else◌}
use Rattle.rk_base.specs.Text.{Text, join, parent}
use Rattle.rk_folder.specs.Counts.{Rose}
use Rattle.rk_folder.specs.Told.{Held, standing, is_dir}
use Rattle.rk_folder.specs.declared.folder.FolderCall.{FolderCall}
use Rattle.rk_folder.specs.declared.folder.FolderCall.TheVariants as asks
use Rattle.rk_folder.specs.declared.folder.Got.{Got}
use Rattle.rk_folder.specs.declared.folder.Got.TheVariants.{Content, Absent}
use Rattle.rk_folder.specs.declared.folder.Item.{Item}
use Rattle.rk_folder.specs.declared.folder.Item.TheVariants as item
use Rattle.rk_folder.specs.declared.folder.Standing.{Standing}
use Rattle.rk_folder.specs.declared.folder.Standing.TheVariants as standing
use Rattle.rk_install.specs.declared.looking.LookErr.{LookErr}
use Rattle.rk_install.specs.declared.looking.LookErr.TheVariants.{ReadFault, NoMemory}
use Rattle.rk_install.specs.declared.looking.Place.{Place}
use Rattle.rk_install.specs.declared.looking.Place.TheVariants.{Nowhere, Free, File, Dir, Special}

-- what is found at a path, by whether a directory holds it and by what stands there
abbrev pub place_of : Bool → Option Standing → Place
place_of in_dir None = if in_dir then Free else Nowhere
place_of in_dir (Some (standing.File bytes)) = File
place_of in_dir (Some standing.Dir) = Dir
place_of in_dir (Some standing.Special) = Special

abbrev pub place_at : Held → Text → Place
place_at held path = place_of (is_dir (standing held (parent path))) (standing held path)

-- by what is listed of its name
abbrev pub place_by : Option Item → Place
place_by None = Free
place_by (Some (item.File name)) = File
place_by (Some (item.Dir name)) = Dir
place_by (Some (item.Special name)) = Special
place_by (Some item.Odd) = Free

-- by names, from a directory on
abbrev pub place_below : Held → Text → List Text → Place
place_below held dir [] = Nowhere
place_below held dir (name ∷ []) = place_of true (standing held (join dir name))
place_below held dir (name ∷ more ∷ names) = if is_dir (standing held (join dir name)) then place_below held (join dir name) (more ∷ names) else Nowhere

-- the bytes that a read gives
abbrev pub content_of : Got → Option Text
content_of (Content bytes) = Some bytes
content_of Absent = None

-- what is asked on the way to a path, by its names from a directory on
abbrev pub lists_down : Text → List Text → List FolderCall
lists_down dir [] = []
lists_down dir (name ∷ names) = asks.List dir ∷ lists_down (join dir name) names

abbrev pub is_dir_place : Place → Bool
is_dir_place Nowhere = false
is_dir_place Free = false
is_dir_place File = false
is_dir_place Dir = true
is_dir_place Special = false

abbrev pub is_file_place : Place → Bool
is_file_place Nowhere = false
is_file_place Free = false
is_file_place File = true
is_file_place Dir = false
is_file_place Special = false

abbrev pub is_free_place : Place → Bool
is_free_place Nowhere = false
is_free_place Free = true
is_free_place File = false
is_free_place Dir = false
is_free_place Special = false

-- a file may be written there
abbrev pub may_hold : Place → Bool
may_hold place = is_free_place place || is_file_place place

-- What a look tells.

abbrev pub Tells : {T : Type 0} → Option Held → (Held → T → Type 0) → Result T LookErr → Type 0
Tells told P (Ok it) = IfSome told (λ held. P held it)
Tells told P (Err e) = Unit {0}

-- a read fault comes only where the count of them rose, and it rises at nothing else
abbrev pub ReadCaused : {T : Type 0} → ℕ → ℕ → Result T LookErr → Type 0
ReadCaused before now (Ok it) = now ≡ before
ReadCaused before now (Err ReadFault) = (before ≤ now) × Rose before now
ReadCaused before now (Err NoMemory) = now ≡ before

-- a look that ends otherwise than by want of memory had no call that wanted any
abbrev pub MemoryCounted : {T : Type 0} → ℕ → ℕ → Result T LookErr → Type 0
MemoryCounted before now (Ok it) = now ≡ before
MemoryCounted before now (Err ReadFault) = now ≡ before
MemoryCounted before now (Err NoMemory) = before ≤ now

abbrev pub IsNoFault : {T : Type 0} → Result T LookErr → Type 0
IsNoFault (Ok it) = Unit {0}
IsNoFault (Err ReadFault) = ⊥
IsNoFault (Err NoMemory) = Unit {0}

-- a steady folder stays steady, and no look at it is a fault
abbrev pub Steadily : {T : Type 0} → Bool → Bool → Result T LookErr → Type 0
Steadily before now result = (now ≡ before) × (before ≡ true → IsNoFault result)
