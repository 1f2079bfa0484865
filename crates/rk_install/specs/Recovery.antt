-- What is done with a sealed list of calls.
use Rattle.std.specs.Prelude.{◌≡◌, ◌≢◌, ◌⊎◌, ◌≤◌, ◌<◌, ◌^◌, ◌++◌, ℕ, List, [], ◌∷◌, length, Bool, true, false, Option, Some, None, IfSome, Result, Ok, Err}
use Rattle.rk_base.specs.Text.{Text, is_root}
use Rattle.tr_parts.specs.Reads.{IsDamage}
use Rattle.tr_parts.specs.declared.fault.Damage.{Damage}
use Rattle.tr_parts.specs.declared.fault.CodecErr.{CodecErr}
use Rattle.tr_parts.specs.declared.fault.CodecErr.TheVariants as codec
use Rattle.rk_folder.specs.Counts.{Rose}
use Rattle.rk_folder.specs.Hidden.{install_file}
use Rattle.rk_folder.specs.Looks.{reads, state_listings}
use Rattle.rk_folder.specs.Told.{Held, standing, bytes_in, without}
use Rattle.rk_folder.specs.declared.folder.FolderCall.{FolderCall}
use Rattle.rk_seal.specs.Ops.{are_calls, path_of}
use Rattle.rk_seal.specs.Spelling.{install_spelling}
use Rattle.rk_seal.specs.declared.ops.Op.{Op}
use Rattle.rk_install.specs.Calls.{after_all}
use Rattle.rk_install.specs.Halfway.{AllReady, AllWhole, Halfway, IsCut, finished}
use Rattle.rk_install.specs.declared.fault.RecoverErr.{RecoverErr}
use Rattle.rk_install.specs.declared.fault.RecoverErr.TheVariants.{Damaged, ReadFault, WriteFault, NoMemory}

-- the bytes of the sealed list, where it stands
abbrev pub sealed_in : Held → Option Text
sealed_in held = bytes_in (standing held install_file)

-- what is asked to find it: listings, and a read where it stands
abbrev pub seal_looks : List FolderCall
seal_looks = state_listings ++ reads install_file

-- no call is at the root
abbrev pub AreBelowRoot : List Op → Type 0
AreBelowRoot [] = Unit {0}
AreBelowRoot (op ∷ ops) = (is_root (path_of op) ≡ false) × AreBelowRoot ops

-- the seal is taken away
abbrev pub unsealed : Held → Held
unsealed = without install_file

-- these bytes are the sealed list of these calls
pub record Seals (bytes : Option Text) (ops : List Op) : Type 0 where
  pub calls : are_calls ops ≡ true
  pub spelt : bytes ≡ Some (install_spelling ops)

-- all is as before where no list stands; else its calls were made, or passed over, and the seal was taken away
abbrev pub IsRecovered : Option Text → Held → Option Held → Type 0
IsRecovered None held new = new ≡ Some held
IsRecovered (Some bytes) held new = (ops : List Op) × Seals (Some bytes) ops × (new ≡ Some (unsealed (finished ops held)))

-- a list stands, and is no spelling
abbrev pub IsDamagedList : Option Text → Damage → Type 0
IsDamagedList None damage = ⊥
IsDamagedList (Some bytes) damage = IsDamage 44 bytes damage × ((ops : List Op) → are_calls ops ≡ true → bytes ≢ install_spelling ops)

-- all is as before, or some of the list's calls were made or passed over, and the next one failed; the seal still stands
abbrev pub IsCutShort : Held → Option Held → Type 0
IsCutShort held new = (new ≡ Some held) ⊎ ((ops : List Op) × Seals (sealed_in held) ops × IsCut ops (Some held) new)

abbrev pub Recovers : {T : Type 0} → Held → Option Held → Result T RecoverErr → Type 0
Recovers held new (Ok it) = IsRecovered (sealed_in held) held new
Recovers held new (Err (Damaged damage)) = IsDamagedList (sealed_in held) damage × (new ≡ Some held)
Recovers held new (Err ReadFault) = IsCutShort held new
Recovers held new (Err WriteFault) = IsCutShort held new
Recovers held new (Err NoMemory) = IsCutShort held new

-- where the folder tells what it holds
abbrev pub RecoversTold : {T : Type 0} → Option Held → Option Held → Result T RecoverErr → Type 0
RecoversTold told new result = IfSome told (λ held. Recovers held new result)

-- Faults.

abbrev pub of_codec : CodecErr → RecoverErr
of_codec (codec.Damaged damage) = Damaged damage
of_codec codec.NoMemory = NoMemory

-- it isn't that the list is damaged
abbrev pub IsStop : {T : Type 0} → Result T RecoverErr → Type 0
IsStop (Ok it) = Unit {0}
IsStop (Err (Damaged damage)) = ⊥
IsStop (Err ReadFault) = Unit {0}
IsStop (Err WriteFault) = Unit {0}
IsStop (Err NoMemory) = Unit {0}

-- a read fault only where the count of them rose, and it rises at nothing else
abbrev pub ReadCaused : {T : Type 0} → ℕ → ℕ → Result T RecoverErr → Type 0
ReadCaused before now (Ok it) = now ≡ before
ReadCaused before now (Err (Damaged damage)) = now ≡ before
ReadCaused before now (Err ReadFault) = (before ≤ now) × Rose before now
ReadCaused before now (Err WriteFault) = now ≡ before
ReadCaused before now (Err NoMemory) = now ≡ before

-- a write fault likewise
abbrev pub WriteCaused : {T : Type 0} → ℕ → ℕ → Result T RecoverErr → Type 0
WriteCaused before now (Ok it) = now ≡ before
WriteCaused before now (Err (Damaged damage)) = now ≡ before
WriteCaused before now (Err ReadFault) = now ≡ before
WriteCaused before now (Err WriteFault) = (before ≤ now) × Rose before now
WriteCaused before now (Err NoMemory) = now ≡ before

-- where it ends otherwise than by want of memory, no call had any
abbrev pub MemoryCounted : {T : Type 0} → ℕ → ℕ → Result T RecoverErr → Type 0
MemoryCounted before now (Ok it) = now ≡ before
MemoryCounted before now (Err (Damaged damage)) = now ≡ before
MemoryCounted before now (Err ReadFault) = now ≡ before
MemoryCounted before now (Err WriteFault) = now ≡ before
MemoryCounted before now (Err NoMemory) = before ≤ now

abbrev pub IsNoFault : {T : Type 0} → Result T RecoverErr → Type 0
IsNoFault (Ok it) = Unit {0}
IsNoFault (Err (Damaged damage)) = Unit {0}
IsNoFault (Err ReadFault) = ⊥
IsNoFault (Err WriteFault) = ⊥
IsNoFault (Err NoMemory) = Unit {0}

-- a steady folder stays steady, and then nothing is a fault
abbrev pub Steadily : {T : Type 0} → Bool → Bool → Result T RecoverErr → Type 0
Steadily before now result = (now ≡ before) × (before ≡ true → IsNoFault result)

-- Laws.

-- a folder that is whole and ready for the calls of a list is halfway through them, and the list stands sealed
pub record IsSealed (ops : List Op) (start held : Held) : Type 0 where
  pub calls : are_calls ops ≡ true
  pub few : length (install_spelling ops) < 2 ^ 64
  pub seal : sealed_in held ≡ Some (install_spelling ops)
  pub whole : AllWhole ops start
  pub ready : AllReady ops start
  pub half : Halfway ops start held

-- finished it holds what the calls were to lead to, without the seal
abbrev pub RecoversAll : Type 0
RecoversAll = (ops : List Op) (start held : Held) (new : Option Held) → IsSealed ops start held → IsRecovered (sealed_in held) held new → new ≡ Some (unsealed (after_all ops start))

-- and where that is cut short, it is as it was: sealed, and halfway
abbrev pub StaysSealed : Type 0
StaysSealed = (ops : List Op) (start held : Held) (new : Option Held) → IsSealed ops start held → IsCutShort held new → IfSome new (IsSealed ops start)

-- such a list is never damaged, whatever stopped
abbrev pub NeverDamaged : Type 0
NeverDamaged = (ops : List Op) (start held : Held) (damage : Damage) → IsSealed ops start held → IsDamagedList (sealed_in held) damage → ⊥
