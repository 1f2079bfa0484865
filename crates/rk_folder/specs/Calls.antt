-- What a call of a folder tells and leaves.
use Rattle.std.specs.Prelude.{◌≡◌, ◌≤◌, ◌⊎◌, ℕ, List, Bool, true, Option, Some, None, Result, Ok, Err, option_map, MatchBool}
use Rattle.rk_base.specs.Text.{Text}
use Rattle.rk_folder.specs.Counts.{Rose}
use Rattle.rk_folder.specs.Told.{Held, items_of, standing, with_standing}
use Rattle.rk_folder.specs.declared.folder.Item.{Item}
use Rattle.rk_folder.specs.declared.folder.Standing.{Standing}
use Rattle.rk_folder.specs.declared.folder.Standing.TheVariants.{File, Dir, Special}
use Rattle.rk_folder.specs.declared.folder.Got.{Got}
use Rattle.rk_folder.specs.declared.folder.Got.TheVariants.{Content, Absent}
use Rattle.rk_folder.specs.declared.folder.FolderErr.{FolderErr}
use Rattle.rk_folder.specs.declared.folder.FolderErr.TheVariants.{Failed, NoMemory}

-- a folder that tells nothing allows every call
abbrev pub allows : Option Held → (Held → Bool) → Bool
allows None test = true
allows (Some held) test = test held

-- A call that isn't allowed fails, and isn't a fault. One that is allowed fails only by a fault.
abbrev pub Caused : {T : Type 0} → ℕ → ℕ → Bool → Result T FolderErr → Type 0
Caused before now allowed (Ok it) = (now ≡ before) × (allowed ≡ true)
Caused before now allowed (Err Failed) = (before ≤ now) × MatchBool allowed (Rose before now) (now ≡ before)
Caused before now allowed (Err NoMemory) = now ≡ before

-- want of memory raises the count of it, and nothing else does
abbrev pub MemoryCaused : {T : Type 0} → ℕ → ℕ → Result T FolderErr → Type 0
MemoryCaused before now (Ok it) = now ≡ before
MemoryCaused before now (Err Failed) = now ≡ before
MemoryCaused before now (Err NoMemory) = (before ≤ now) × Rose before now

abbrev pub IsNoFault : {T : Type 0} → Result T FolderErr → Type 0
IsNoFault (Ok it) = Unit {0}
IsNoFault (Err Failed) = ⊥
IsNoFault (Err NoMemory) = Unit {0}

-- a steady folder stays steady, and no call that it allows is a fault
abbrev pub Steadily : {T : Type 0} → Bool → Bool → Bool → Result T FolderErr → Type 0
Steadily before now allowed result = (now ≡ before) × (before ≡ true → allowed ≡ true → IsNoFault result)

-- what a read tells of what stands at its path
abbrev pub got_of : Option Standing → Option Got
got_of None = Some Absent
got_of (Some (File bytes)) = Some (Content bytes)
got_of (Some Dir) = None
got_of (Some Special) = None

abbrev pub Reads : Option Held → Text → Got → Type 0
Reads None path got = Unit {0}
Reads (Some held) path got = got_of (standing held path) ≡ Some got

abbrev pub Lists : Option Held → Text → List Item → Type 0
Lists None dir items = Unit {0}
Lists (Some held) dir items = items ≡ items_of held dir

-- at Ok what the step makes of it, else the same
abbrev pub Changes : {T : Type 0} → (Held → Held) → Option Held → Option Held → Result T FolderErr → Type 0
Changes step old new (Ok it) = new ≡ option_map step old
Changes step old new (Err e) = new ≡ old

-- a write that failed may have left any bytes in its file
abbrev pub Damages : Text → Bool → Option Held → Option Held → Type 0
Damages path allowed old new = (new ≡ old) ⊎ ((left : List ℕ) × (allowed ≡ true) × (new ≡ option_map (with_standing path (File left)) old))

abbrev pub Writes : {T : Type 0} → Text → List ℕ → Bool → Option Held → Option Held → Result T FolderErr → Type 0
Writes path bytes allowed old new (Ok it) = new ≡ option_map (with_standing path (File bytes)) old
Writes path bytes allowed old new (Err Failed) = Damages path allowed old new
Writes path bytes allowed old new (Err NoMemory) = new ≡ old
