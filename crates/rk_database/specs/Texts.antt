-- What a database's bytes call for.
use Rattle.std.specs.Prelude.{◌≡◌, ◌≢◌, ◌+◌, ℕ, List, length, Bool, codes, if◌then◌else◌, Result, Ok, Err}
use Rattle.rk_base.specs.Text.{Text}
use Rattle.rk_calls.specs.Keys.{KeyValue}
use Rattle.rk_calls.specs.Talk.{Says}
use Rattle.rk_traces.specs.Checked.{IsFirstWrong}
use Rattle.rk_traces.specs.Started.{started}
use Rattle.rk_traces.specs.Spoken.{AreSpoken}
use Rattle.rk_show.specs.Json.{json_text}
use Rattle.rk_show.specs.Traces.{records_line, trace_text}
use Rattle.tr_parts.specs.Reads.{IsDamage}
use Rattle.tr_kept.specs.KeptSpelling.{IsKeptSpelling}
use Rattle.tr_parts.specs.declared.fault.Damage.{Damage}
use Rattle.tr_record.specs.Generations.{records, table_at}
use Rattle.tr_record.specs.declared.records.Record.{Record}
use Rattle.rk_database.specs.declared.stop.QueryErr.{QueryErr}
use Rattle.rk_database.specs.declared.stop.QueryErr.TheVariants as stop

-- a text that the bytes of a database call for
abbrev pub TextOf : Type 1
TextOf = Text → Text → Type 0

-- the text that says that there is no database
abbrev pub no_trace : Text
no_trace = codes "no trace\n"

-- the bytes spell these tables, by the version that is written or one before it
abbrev pub Spells : Text → List (List Record) → Type 0
Spells db kept = IsKeptSpelling db kept

-- they spell none, and this is the damage
abbrev pub IsDamaged : Text → Damage → Type 0
IsDamaged db damage = IsDamage 52 db damage × ((kept : List (List Record)) → IsKeptSpelling db kept → ⊥)

-- The trace.

abbrev pub shown_text : Bool → List Record → Text → Text
shown_text json table db = if json then json_text table else trace_text table db

-- the newest of the tables that the bytes spell, as JSON or as lines
abbrev pub IsTrace : Bool → TextOf
IsTrace json db text = (kept : List (List Record)) × (Spells db kept × (text ≡ shown_text json (table_at 0 kept) db))

-- The check.

-- the bytes spell so many records, and each of them is spoken
abbrev pub IsChecked : (KeyValue → Says) → TextOf
IsChecked first db text = (kept : List (List Record)) × (Spells db kept × AreSpoken first (records kept) × (text ≡ records_line (length (records kept))))

-- this is the first of the records that the bytes spell that isn't spoken, and this its wrong step
abbrev pub IsForged : (KeyValue → Says) → Text → ℕ → ℕ → Type 0
IsForged first db rec step = (kept : List (List Record)) × (Spells db kept × IsFirstWrong first (records kept) rec step)

-- each record that was looked at was started once
abbrev pub StartsRecords : Text → ℕ → ℕ → Result Text QueryErr → Type 0
StartsRecords db before now (Ok text) = (kept : List (List Record)) × (Spells db kept × (now ≡ started (length (records kept)) before))
StartsRecords db before now (Err (stop.Forged rec step)) = now ≡ started (rec + 1) before
StartsRecords db before now (Err (stop.Damaged damage)) = now ≡ before
StartsRecords db before now (Err other) = Unit {0}

-- Why there is no text.

-- a trace is refused only for damage
abbrev pub NoTrace : Text → QueryErr → Type 0
NoTrace db (stop.Damaged damage) = IsDamaged db damage
NoTrace db stop.NoMemory = Unit {0}
NoTrace db other = ⊥

-- a check also for the first record that isn't spoken
abbrev pub NoCheck : (KeyValue → Says) → Text → QueryErr → Type 0
NoCheck first db (stop.Damaged damage) = IsDamaged db damage
NoCheck first db (stop.Forged rec step) = IsForged first db rec step
NoCheck first db stop.NoMemory = Unit {0}
NoCheck first db other = ⊥
