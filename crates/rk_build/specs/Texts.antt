-- What putting the texts leaves.
use Rattle.std.specs.Prelude.{◌≡◌, ◌≤◌, ◌⊎◌, ℕ, take, Option, Result, Ok, Err}
use Rattle.rk_base.specs.Text.{Text}
use Rattle.rk_folder.specs.Counts.{Rose}
use Rattle.rk_folder.specs.Sinks.{with_bytes}
use Rattle.rk_build.specs.declared.stop.BuildErr.{BuildErr}
use Rattle.rk_build.specs.declared.stop.BuildErr.TheVariants as stop

-- a front of the text went out
abbrev pub Front : Text → Option Text → Option Text → Type 0
Front text old new = (n : ℕ) × (new ≡ with_bytes (take n text) old)

-- a fault only where the count rose
abbrev pub Counted : {T : Type 0} → ℕ → ℕ → Result T BuildErr → Type 0
Counted before now (Ok it) = now ≡ before
Counted before now (Err stop.WriteFault) = (before ≤ now) × Rose before now
Counted before now (Err other) = now ≡ before

-- want of memory only where the count of it rose
abbrev pub MemoryCounted : {T : Type 0} → ℕ → ℕ → Result T BuildErr → Type 0
MemoryCounted before now (Ok it) = now ≡ before
MemoryCounted before now (Err stop.NoMemory) = before ≤ now
MemoryCounted before now (Err other) = now ≡ before

-- a fault only where one of the counts rose
abbrev pub BothCounted : {T : Type 0} → ℕ → ℕ → ℕ → ℕ → Result T BuildErr → Type 0
BothCounted before now also_before also_now (Ok it) = (now ≡ before) × (also_now ≡ also_before)
BothCounted before now also_before also_now (Err stop.WriteFault) = (before ≤ now) × (also_before ≤ also_now) × (Rose before now ⊎ Rose also_before also_now)
BothCounted before now also_before also_now (Err other) = (now ≡ before) × (also_now ≡ also_before)

-- no fault of reading or writing
abbrev pub IsNoFault : {T : Type 0} → Result T BuildErr → Type 0
IsNoFault (Err stop.ReadFault) = ⊥
IsNoFault (Err stop.WriteFault) = ⊥
IsNoFault other = Unit {0}
