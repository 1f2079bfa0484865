-- What a folder in memory tells.
use Rattle.std.specs.Prelude.{◌≡◌, ℕ, Bool, List, Option, Some, Result, Ok, Err, if◌then◌else◌}
use Rattle.rk_base.specs.Canonical.{is_empty}
use Rattle.rk_folder.specs.Told.{Held}
use Rattle.rk_folder.specs.Schedule.{Failing, Schedule}
use Rattle.rk_folder.specs.declared.folder.FolderCall.{FolderCall}
use Rattle.rk_folder.specs.declared.memory.MemFolder.{MemFolder}

-- what it holds
abbrev pub held_by : MemFolder → Held
held_by folder = folder.held

abbrev pub told_by : MemFolder → Option Held
told_by folder = Some (held_by folder)

-- What it keeps beside: the calls that are to fail, how many calls there were, the calls themselves, how many
-- lists and reads were faults, how many of the other calls, and how many calls had no memory.
pub record Kept : Type 0 where
  pub failing : List Failing
  pub calls : ℕ
  pub asked : List FolderCall
  pub read_faults : ℕ
  pub write_faults : ℕ
  pub memory_failures : ℕ

abbrev pub kept_by : MemFolder → Kept
kept_by folder = record { failing = folder.failing.items; calls = folder.calls; asked = folder.asked.items; read_faults = folder.read_faults; write_faults = folder.write_faults; memory_failures = folder.memory_failures }

-- no call is to fail
abbrev pub is_steady : MemFolder → Bool
is_steady folder = is_empty folder.failing.items

abbrev pub schedule_of : MemFolder → Schedule
schedule_of folder = record { failing = folder.failing.items; calls = folder.calls; asked = folder.asked.items }

-- what is to stand somewhere does so where it may, and else nothing changes
abbrev pub Sets : {E : Type 0} → (Held → Bool) → (Held → Held) → Held → Held → Result Bool E → Type 0
Sets may step old new (Ok b) = (b ≡ may old) × (new ≡ (if may old then step old else old))
Sets may step old new (Err e) = new ≡ old
