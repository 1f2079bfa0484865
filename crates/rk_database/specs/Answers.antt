-- What each answer says of the folder, the output and the counts.
use Rattle.std.specs.Prelude.{◌≡◌, ◌⊎◌, ◌≤◌, ◌+◌, ℕ, take, length, List, Bool, Option, Some, None, IfSome, IsSome, is_some, option_map, Result, Ok, Err}
use Rattle.rk_base.specs.Text.{Text}
use Rattle.rk_traces.specs.Started.{started}
use Rattle.rk_folder.specs.Counts.{Rose}
use Rattle.rk_folder.specs.Hidden.{db_file}
use Rattle.rk_folder.specs.Import.{state_of}
use Rattle.rk_folder.specs.Sinks.{with_bytes}
use Rattle.rk_folder.specs.Specials.{hidden_special}
use Rattle.rk_folder.specs.Told.{Held, without}
use Rattle.tr_record.specs.Generations.{records}
use Rattle.tr_record.specs.declared.records.Record.{Record}
use Rattle.rk_database.specs.Texts.{TextOf, Spells, no_trace}
use Rattle.rk_database.specs.declared.stop.Said.{Said}
use Rattle.rk_database.specs.declared.stop.Said.TheVariants as said
use Rattle.rk_database.specs.declared.stop.QueryErr.{QueryErr}
use Rattle.rk_database.specs.declared.stop.QueryErr.TheVariants as stop

-- the bytes of the database, where it stands
abbrev pub db_in : Held → Option Text
db_in held = (state_of held).state.db

-- `.rkr` is a directory, if it stands, its state files are files, and this is so of the database's bytes
abbrev pub Holds : Option Held → (Option Text → Type 0) → Type 0
Holds told P = IfSome told (λ held. (hidden_special held ≡ None) × P (db_in held))

-- this is the first of `.rkr` and its state files that is out of place
abbrev pub IsSpecial : Option Held → Text → Type 0
IsSpecial told path = IfSome told (λ held. hidden_special held ≡ Some path)

abbrev pub IsSomeOf : Option Text → (Text → Type 0) → Type 0
IsSomeOf None P = ⊥
IsSomeOf (Some db) P = P db

-- What reading the state files finds.
abbrev pub FindsDb : Option Held → Result (Option Text) QueryErr → Type 0
FindsDb told (Ok db) = Holds told (λ it. db ≡ it)
FindsDb told (Err (stop.Special path)) = IsSpecial told path
FindsDb told (Err stop.ReadFault) = Unit {0}
FindsDb told (Err stop.NoMemory) = Unit {0}
FindsDb told (Err other) = ⊥

-- What looking for it finds: whether it stands.
abbrev pub FindsWhether : Option Held → Result Bool QueryErr → Type 0
FindsWhether told (Ok stands) = Holds told (λ it. stands ≡ is_some it)
FindsWhether told (Err (stop.Special path)) = IsSpecial told path
FindsWhether told (Err stop.ReadFault) = Unit {0}
FindsWhether told (Err stop.NoMemory) = Unit {0}
FindsWhether told (Err other) = ⊥

-- What a text that is put leaves.

-- a front of a text went out
abbrev pub Front : Text → Option Text → Option Text → Type 0
Front text old new = (n : ℕ) × (new ≡ with_bytes (take n text) old)

abbrev pub PutSo : {T : Type 0} → Text → Option Text → Option Text → Result T QueryErr → Type 0
PutSo text old new (Ok it) = new ≡ with_bytes text old
PutSo text old new (Err stop.WriteFault) = Front text old new
PutSo text old new (Err stop.NoMemory) = Front text old new
PutSo text old new (Err other) = ⊥

-- A trace or a check: the text that is called for.

-- the text that the database calls for, or that there is none
abbrev pub Calls : TextOf → Option Text → Text → Type 0
Calls Of None text = text ≡ no_trace
Calls Of (Some db) text = Of db text

-- What the text that says that there is none leaves.
abbrev pub PutsNone : Option Text → Option Text → Result Said QueryErr → Type 0
PutsNone old new (Ok said.Done) = ⊥
PutsNone old new (Ok said.NoTrace) = new ≡ with_bytes no_trace old
PutsNone old new (Err stop.WriteFault) = Front no_trace old new
PutsNone old new (Err stop.NoMemory) = Front no_trace old new
PutsNone old new (Err other) = ⊥

-- nothing, or a front of the text that is called for
abbrev pub Halts : TextOf → Option Held → Option Text → Option Text → Type 0
Halts Of told old new = (new ≡ old) ⊎ Holds told (λ db. (text : Text) × (Calls Of db text × Front text old new))

-- Done with the text that the database calls for, NoTrace exactly without a database, and otherwise why not
abbrev pub Shows : TextOf → (Text → QueryErr → Type 0) → Option Held → Option Text → Option Text → Result Said QueryErr → Type 0
Shows Of Refuses told old new (Ok said.Done) = Holds told (λ it. IsSomeOf it (λ db. (text : Text) × (Of db text × (new ≡ with_bytes text old))))
Shows Of Refuses told old new (Ok said.NoTrace) = Holds told (λ it. it ≡ None) × (new ≡ with_bytes no_trace old)
Shows Of Refuses told old new (Err (stop.Special path)) = IsSpecial told path × (new ≡ old)
Shows Of Refuses told old new (Err (stop.Damaged damage)) = Holds told (λ it. IsSomeOf it (λ db. Refuses db (stop.Damaged damage))) × (new ≡ old)
Shows Of Refuses told old new (Err (stop.Forged rec step)) = Holds told (λ it. IsSomeOf it (λ db. Refuses db (stop.Forged rec step))) × (new ≡ old)
Shows Of Refuses told old new (Err stop.ReadFault) = new ≡ old
Shows Of Refuses told old new (Err stop.WriteFault) = Halts Of told old new
Shows Of Refuses told old new (Err stop.NoMemory) = Halts Of told old new

-- Done only where the records that the database spells were started, each once
abbrev pub Checks : Option Held → ℕ → ℕ → Result Said QueryErr → Type 0
Checks told before now (Ok said.Done) = Holds told (λ it. IsSomeOf it (λ db. (kept : List (List Record)) × (Spells db kept × (now ≡ started (length (records kept)) before))))
Checks told before now (Err (stop.Forged rec step)) = now ≡ started (rec + 1) before
Checks told before now (Err stop.WriteFault) = Unit {0}
Checks told before now (Err stop.NoMemory) = Unit {0}
Checks told before now other = now ≡ before

-- The removal of the database.

-- Done takes away the database alone; all else leaves the folder as it was
abbrev pub Forgets : Option Held → Option Held → Result Said QueryErr → Type 0
Forgets told new (Ok said.Done) = Holds told (λ it. IsSome it) × (new ≡ option_map (without db_file) told)
Forgets told new (Ok said.NoTrace) = Holds told (λ it. it ≡ None) × (new ≡ told)
Forgets told new (Err (stop.Special path)) = IsSpecial told path × (new ≡ told)
Forgets told new (Err (stop.Damaged damage)) = ⊥
Forgets told new (Err (stop.Forged rec step)) = ⊥
Forgets told new (Err stop.ReadFault) = new ≡ told
Forgets told new (Err stop.WriteFault) = new ≡ told
Forgets told new (Err stop.NoMemory) = new ≡ told

-- nothing, or a front of the text that says that there is none, where there is none
abbrev pub MaySayNone : Option Held → Option Text → Option Text → Type 0
MaySayNone told old new = (new ≡ old) ⊎ (Holds told (λ it. it ≡ None) × Front no_trace old new)

-- that there is none is all that it says, and only where there is none
abbrev pub SaysNone : Option Held → Option Text → Option Text → Result Said QueryErr → Type 0
SaysNone told old new (Ok said.NoTrace) = Holds told (λ it. it ≡ None) × (new ≡ with_bytes no_trace old)
SaysNone told old new (Err stop.WriteFault) = MaySayNone told old new
SaysNone told old new (Err stop.NoMemory) = MaySayNone told old new
SaysNone told old new other = new ≡ old

-- The counts of faults.

-- a read fault only where the folder's count of them rose
abbrev pub ReadsCounted : {T : Type 0} → ℕ → ℕ → Result T QueryErr → Type 0
ReadsCounted before now (Err stop.ReadFault) = Rose before now
ReadsCounted before now other = now ≡ before

-- a write fault only where this count rose
abbrev pub WritesCounted : {T : Type 0} → ℕ → ℕ → Result T QueryErr → Type 0
WritesCounted before now (Err stop.WriteFault) = (before ≤ now) × Rose before now
WritesCounted before now other = now ≡ before

-- a write fault only where one of these counts rose
abbrev pub EitherCounted : {T : Type 0} → ℕ → ℕ → ℕ → ℕ → Result T QueryErr → Type 0
EitherCounted before now also_before also_now (Err stop.WriteFault) = (before ≤ now) × (also_before ≤ also_now) × (Rose before now ⊎ Rose also_before also_now)
EitherCounted before now also_before also_now other = (now ≡ before) × (also_now ≡ also_before)

-- no fault of reading or writing
abbrev pub IsNoFault : {T : Type 0} → Result T QueryErr → Type 0
IsNoFault (Err stop.ReadFault) = ⊥
IsNoFault (Err stop.WriteFault) = ⊥
IsNoFault other = Unit {0}
