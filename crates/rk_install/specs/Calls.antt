-- What a call of an install tells and leaves.
use Rattle.std.specs.Prelude.{◌≡◌, ◌≤◌, ℕ, Bool, true, Option, IfSome, Result, Ok, Err}
use Rattle.rk_folder.specs.Told.{Held}
use Rattle.rk_folder.specs.Calls.{Damages}
use Rattle.rk_folder.specs.Counts.{Rose}
pub use Rattle.rk_seal.specs.Effects.{allowed, step, after_all, AllowsAll, left_by}
use Rattle.rk_seal.specs.declared.ops.Op.{Op}
use Rattle.rk_seal.specs.declared.ops.Op.TheVariants.{RemoveFile, RemoveDir, MakeDir, Write}
use Rattle.rk_install.specs.declared.calling.InstallErr.{InstallErr}
use Rattle.rk_install.specs.declared.calling.InstallErr.TheVariants.{WriteFault, NoMemory}

-- a folder that tells what it holds allows it
abbrev pub MayMake : Option Held → Op → Type 0
MayMake told op = IfSome told (λ held. allowed op held ≡ true)

-- a fault only where the count rose
abbrev pub Caused : {T : Type 0} → ℕ → ℕ → Result T InstallErr → Type 0
Caused before now (Ok it) = now ≡ before
Caused before now (Err WriteFault) = (before ≤ now) × Rose before now
Caused before now (Err NoMemory) = now ≡ before

-- want of memory only where the folder's count of it rose
abbrev pub MemoryCaused : {T : Type 0} → ℕ → ℕ → Result T InstallErr → Type 0
MemoryCaused before now (Ok it) = now ≡ before
MemoryCaused before now (Err WriteFault) = now ≡ before
MemoryCaused before now (Err NoMemory) = (before ≤ now) × Rose before now

-- this, where there was no memory
abbrev pub OnNoMemory : {T : Type 0} → Result T InstallErr → Type 0 → Type 0
OnNoMemory (Ok it) P = Unit {0}
OnNoMemory (Err WriteFault) P = Unit {0}
OnNoMemory (Err NoMemory) P = P

abbrev pub IsNoFault : {T : Type 0} → Result T InstallErr → Type 0
IsNoFault (Ok it) = Unit {0}
IsNoFault (Err WriteFault) = ⊥
IsNoFault (Err NoMemory) = Unit {0}

-- a steady folder stays steady, and then no call is a fault
abbrev pub Steadily : {T : Type 0} → Bool → Bool → Result T InstallErr → Type 0
Steadily before now result = (now ≡ before) × (before ≡ true → IsNoFault result)

-- what a call that failed may have left
abbrev pub DamagedBy : Op → Option Held → Option Held → Type 0
DamagedBy (Write path bytes) old new = Damages path true old new
DamagedBy (RemoveFile path) old new = new ≡ old
DamagedBy (RemoveDir path) old new = new ≡ old
DamagedBy (MakeDir path) old new = new ≡ old
