-- Why a build stops.
use Rattle.std.specs.Prelude.{◌≡◌, ◌<◌, List, length, Result, Ok, Err}
use Rattle.rk_base.specs.declared.memory.NoMemory.{NoMemory}
use Rattle.rk_calls.specs.Talk.{Says}
use Rattle.rk_calls.specs.Keys.{KeyValue}
use Rattle.tr_record.specs.declared.records.Record.{Record}
use Rattle.tr_record.specs.Rec.{rec_at}
use Rattle.rk_traces.specs.Spoken.{AreSpoken, IsWrongStep}
use Rattle.rk_traces.specs.declared.check.CheckErr.{CheckErr}
use Rattle.rk_traces.specs.declared.check.CheckErr.TheVariants as check
use Rattle.rk_replay.specs.declared.stop.ReplayErr.{ReplayErr}
use Rattle.rk_replay.specs.declared.stop.ReplayErr.TheVariants.{Spent, Forged, Stopped}

-- The told step of the told record is wrong; where the budget is spent the kept records are spoken, and this holds of
-- the fresh run; and this holds of the reason for which the world stopped.
abbrev pub Stops : {S : Type 0} → (KeyValue → Says) → List Record → Type 0 → (S → Type 0) → ReplayErr S → Type 0
Stops first old spent stopped (Forged rec step) = (rec < length old) × IsWrongStep first (rec_at rec old) step
Stops first old spent stopped Spent = AreSpoken first old × spent
Stops first old spent stopped (Stopped reason) = stopped reason

-- this holds unless the world stopped it, or there was no memory

abbrev pub StaysAt : {S : Type 0} → Type 0 → ReplayErr S → Type 0
StaysAt stays Spent = stays
StaysAt stays (Forged rec step) = stays
StaysAt stays (Stopped reason) = Unit {0}

abbrev pub StaysSo : {T S : Type 0} → Type 0 → Result T (ReplayErr S) → Type 0
StaysSo stays (Ok it) = stays
StaysSo stays (Err stop) = StaysAt stays stop

-- the told step of the told record is wrong; want of memory tells nothing
abbrev pub IsForged : (KeyValue → Says) → List Record → CheckErr → Type 0
IsForged first old (check.Forged rec step) = (rec < length old) × IsWrongStep first (rec_at rec old) step
IsForged first old check.NoMemory = Unit {0}

-- want of memory, as a reason of the world's
abbrev pub IsWant : {S : Type 0} → (NoMemory → S → Type 0) → ReplayErr S → Type 0
IsWant gives (Stopped reason) = (want : NoMemory) × gives want reason
IsWant gives stop = ⊥

-- what a check tells, as a reason why a build stops
abbrev pub IsHandedOn : {S : Type 0} → (NoMemory → S → Type 0) → CheckErr → ReplayErr S → Type 0
IsHandedOn gives (check.Forged rec step) stop = stop ≡ Forged rec step
IsHandedOn gives check.NoMemory stop = IsWant gives stop
