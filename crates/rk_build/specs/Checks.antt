-- Every record, checked before the script runs.
use Rattle.std.specs.Prelude.{◌≡◌, ◌+◌, ◌<◌, ℕ, Bool, true, List, length, if◌then◌else◌, Result, Ok, Err}
use Rattle.rk_calls.specs.Keys.{KeyValue}
use Rattle.rk_calls.specs.Talk.{Says}
use Rattle.rk_traces.specs.Started.{started, StartsSome}
use Rattle.rk_traces.specs.Spoken.{AreSpoken, IsSpoken, IsWrongStep}
use Rattle.tr_record.specs.Rec.{rec_at}
use Rattle.tr_record.specs.declared.records.Record.{Record}
use Rattle.rk_request.specs.Asked.{checks}
use Rattle.rk_request.specs.declared.requests.Request.{Request}
use Rattle.rk_build.specs.declared.stop.BuildErr.{BuildErr}
use Rattle.rk_build.specs.declared.stop.BuildErr.TheVariants as stop

-- this record isn't what its command says, and this is the first step that its command doesn't take
abbrev pub IsForged : (KeyValue → Says) → List Record → ℕ → ℕ → Type 0
IsForged first table rec step = (rec < length table) × IsWrongStep first (rec_at rec table) step

-- each record before this one is spoken
abbrev pub SpokenBefore : (KeyValue → Says) → List Record → ℕ → Type 0
SpokenBefore first table rec = (i : ℕ) → i < rec → IsSpoken first (rec_at i table)

-- What is told as forged: a record that its command doesn't say, at its wrong step; and where every record is checked, the
-- first such record.
pub record TellsForged (first : KeyValue → Says) (request : Request) (table : List Record) (rec step : ℕ) : Type 0 where
  pub wrong : IsForged first table rec step
  pub earliest : checks request ≡ true → SpokenBefore first table rec

-- where every record is checked, each is spoken
abbrev pub ChecksWhole : (KeyValue → Says) → Bool → List Record → Type 0
ChecksWhole first check table = check ≡ true → AreSpoken first table

-- how many records are checked
abbrev pub checked_count : Bool → List Record → ℕ
checked_count check table = if check then length table else 0

-- What the check of an old table tells.

abbrev pub ChecksSo : (KeyValue → Says) → Bool → List Record → Result (Unit {0}) BuildErr → Type 0
ChecksSo first check old (Ok it) = ChecksWhole first check old
ChecksSo first check old (Err (stop.Forged rec step)) = (check ≡ true) × IsForged first old rec step × SpokenBefore first old rec
ChecksSo first check old (Err stop.NoMemory) = Unit {0}
ChecksSo first check old (Err other) = ⊥

-- each record that is checked is started once; those up to the one that is forged; no more where there was no memory
abbrev pub StartsChecked : Bool → List Record → ℕ → ℕ → Result (Unit {0}) BuildErr → Type 0
StartsChecked check old before now (Ok it) = now ≡ started (checked_count check old) before
StartsChecked check old before now (Err (stop.Forged rec step)) = now ≡ started (rec + 1) before
StartsChecked check old before now (Err stop.NoMemory) = StartsSome (checked_count check old) before now
StartsChecked check old before now (Err other) = ⊥
