-- What a check tells.
use Rattle.std.specs.Prelude.{◌≡◌, ℕ, ◌<◌, List, length, Result, Ok, Err}
use Rattle.rk_calls.specs.Talk.{Says}
use Rattle.rk_calls.specs.Keys.{KeyValue}
use Rattle.tr_record.specs.declared.records.Record.{Record}
use Rattle.tr_record.specs.Rec.{rec_at}
use Rattle.rk_traces.specs.Spoken.{IsSpoken, IsWrongStep}
use Rattle.rk_traces.specs.declared.feeding.FeedErr.{FeedErr}
use Rattle.rk_traces.specs.declared.feeding.FeedErr.TheVariants.{Forged as ForgedStep, NoMemory as NoRoom}
use Rattle.rk_traces.specs.declared.check.CheckErr.{CheckErr}
use Rattle.rk_traces.specs.declared.check.CheckErr.TheVariants.{Forged, NoMemory}

-- the wrong step of a record; nothing else is told but want of memory
abbrev pub IsWrong : (KeyValue → Says) → Record → FeedErr → Type 0
IsWrong first rec (ForgedStep step) = IsWrongStep first rec step
IsWrong first rec NoRoom = Unit {0}

-- the first record of a table that isn't spoken, and its wrong step
pub record IsFirstWrong (first : KeyValue → Says) (table : List Record) (rec step : ℕ) : Type 0 where
  pub here : rec < length table
  pub wrong : IsWrongStep first (rec_at rec table) step
  pub before : (i : ℕ) → i < rec → IsSpoken first (rec_at i table)

-- nothing else is told of a table but want of memory
abbrev pub IsTold : (KeyValue → Says) → List Record → CheckErr → Type 0
IsTold first table (Forged rec step) = IsFirstWrong first table rec step
IsTold first table NoMemory = Unit {0}

-- what was told of a record, as told of the table in which it has this number
abbrev pub at_record : ℕ → FeedErr → CheckErr
at_record rec (ForgedStep step) = Forged rec step
at_record rec NoRoom = NoMemory

-- this record and step are told, but for want of memory
abbrev pub TellsForged : {T : Type 0} → ℕ → ℕ → Result T CheckErr → Type 0
TellsForged rec step (Ok it) = ⊥
TellsForged rec step (Err (Forged r s)) = (r ≡ rec) × (s ≡ step)
TellsForged rec step (Err NoMemory) = Unit {0}
