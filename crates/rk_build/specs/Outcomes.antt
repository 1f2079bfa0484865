-- What each outcome says of the folder, the sinks, the counts of faults, the count of turns and the count of starts.
use Rattle.std.specs.Prelude.{◌≡◌, true, false, ◌⊎◌, ◌≤◌, ◌+◌, ℕ, List, length, Option, Some, IfSome, Result, Ok, Err, if◌then◌else◌}
use Rattle.rk_base.specs.Text.{Text}
use Rattle.rk_calls.specs.Keys.{KeyValue}
use Rattle.rk_calls.specs.Talk.{Says}
use Rattle.rk_traces.specs.Started.{started}
use Rattle.rk_folder.specs.Told.{Held}
use Rattle.rk_folder.specs.Counts.{Rose}
use Rattle.rk_install.specs.Install.{IsMomentOf, StopsPlan}
use Rattle.rk_install.specs.declared.calling.InstallErr.{InstallErr}
use Rattle.rk_install.specs.declared.calling.InstallErr.TheVariants as install
use Rattle.rk_changes.specs.Holdings.{IsAfter}
use Rattle.rk_changes.specs.Imported.{holding_of}
use Rattle.rk_changes.specs.Planned.{IsPlan}
use Rattle.rk_seal.specs.declared.plan.Plan.{Plan}
use Rattle.tr_kept.specs.KeptSpelling.{FitsKept}
use Rattle.tr_parts.specs.declared.fault.Damage.{Damage}
use Rattle.tr_record.specs.Generations.{IsPushed, records}
use Rattle.tr_record.specs.declared.records.Record.{Record}
use Rattle.rk_tree.specs.Copies.{snapshot_of as entries_of}
use Rattle.rk_tree.specs.Entries.{Entries}
use Rattle.rk_kernel.specs.World.{World}
use Rattle.rk_traces.specs.Run.{Outcome as Run, Done, Spent}
use Rattle.rk_traces.specs.Spoken.{AreSpoken}
use Rattle.rk_replay.specs.Ran.{ran_total}
use Rattle.rk_replay.specs.Starts.{StartsRan, StartsUpTo}
use Rattle.rk_request.specs.Asked.{checks, is_fresh, turns}
use Rattle.rk_request.specs.declared.requests.Request.{Request}
use Rattle.rk_build.specs.Fresh.{AreReadable, RunText, output_of, error_text_of, held_after}
use Rattle.rk_build.specs.Kept.{Keeping, Refuses}
use Rattle.rk_build.specs.Checks.{ChecksWhole, TellsForged, checked_count}
use Rattle.rk_build.specs.Run.{fresh_run, ran_count}
use Rattle.rk_build.specs.Telling.{SinkState, IsPut, PutsLine, Put}
use Rattle.rk_build.specs.declared.work.Ended.{Ended}
use Rattle.rk_build.specs.declared.outcome.StateFile.{StateFile}
use Rattle.rk_build.specs.declared.stop.Refusal.{Refusal}
use Rattle.rk_build.specs.declared.stop.Refusal.TheVariants as refusal
use Rattle.rk_build.specs.declared.stop.BuildErr.{BuildErr}
use Rattle.rk_build.specs.declared.stop.BuildErr.TheVariants as stop
use Rattle.rk_build.specs.declared.outcome.Outcome.{Outcome}
use Rattle.rk_build.specs.declared.outcome.Outcome.TheVariants as out

abbrev pub outcome_of_refusal : Refusal → Outcome
outcome_of_refusal (refusal.Special path) = out.Special path
outcome_of_refusal (refusal.Damaged file damage) = out.Damaged file damage

abbrev pub outcome_of_stop : BuildErr → Outcome
outcome_of_stop (stop.Refused refusal) = outcome_of_refusal refusal
outcome_of_stop (stop.Forged rec step) = out.Forged rec step
outcome_of_stop stop.Spent = out.Spent
outcome_of_stop stop.ReadFault = out.ReadFault
outcome_of_stop stop.WriteFault = out.WriteFault
outcome_of_stop stop.NoMemory = out.NoMemory

abbrev pub outcome_of : Result Ended BuildErr → Outcome
outcome_of (Ok e) = out.Ended e.status e.launched (length e.ran)
outcome_of (Err e) = outcome_of_stop e

-- For one outcome.

abbrev pub IfEnded : Outcome → (ℕ → ℕ → ℕ → Type 0) → Type 0
IfEnded (out.Ended status launched ran) P = P status launched ran
IfEnded other P = Unit {0}

abbrev pub IfSpecial : Outcome → (Text → Type 0) → Type 0
IfSpecial (out.Special path) P = P path
IfSpecial other P = Unit {0}

abbrev pub IfDamaged : Outcome → (StateFile → Damage → Type 0) → Type 0
IfDamaged (out.Damaged file damage) P = P file damage
IfDamaged other P = Unit {0}

abbrev pub IfForged : Outcome → (ℕ → ℕ → Type 0) → Type 0
IfForged (out.Forged rec step) P = P rec step
IfForged other P = Unit {0}

-- The counts of faults, and the folder's count of calls that had no memory.
pub record Counts : Type 0 where
  pub reads : ℕ
  pub writes : ℕ
  pub puts : ℕ
  pub error_puts : ℕ

-- The folder.

-- it holds what the run leaves, with the tables that are kept from then on, and all else as before
pub record Installed (world : World) (kept : List (List Record)) (held : Held) (new : Option Held) : Type 0 where
  pub after : Held
  pub told : new ≡ Some after
  pub is_after : IsAfter held after (held_after world kept)
  -- a state file that no build would read again isn't written
  pub readable : AreReadable world kept

-- a build that finds it begins with the very tree that the run left, and with these tables
abbrev pub IsNext : World → List (List Record) → Held → Type 0
IsNext world kept after = Keeping false after (λ entries old. (entries ≡ entries_of world.tree) × (old ≡ kept))

-- What was installed: the run's records come first among at most eight tables, of which all records are spoken and can be read back.
pub record LeavesRun (first : KeyValue → Says) (world : World) (table : List Record) (old : List (List Record)) (held : Held) (new : Option Held) : Type 0 where
  pub kept : List (List Record)
  pub pushed : IsPushed table old kept
  pub spoken : AreSpoken first (records kept)
  pub fits : FitsKept kept
  pub installed : Installed world kept held new
  pub next : IsNext world kept installed.after

abbrev pub EndsSo : (KeyValue → Says) → Run World → List (List Record) → Held → Option Held → Type 0
EndsSo first (Done world exit left table) old held new = LeavesRun first world table old held new
EndsSo first Spent old held new = ⊥

-- what a run leaves
abbrev pub IsLeft : Run World → World → List Record → Type 0
IsLeft (Done world status left table) w t = (w ≡ world) × (t ≡ table)
IsLeft Spent w t = ⊥

-- The install of what leads to what is to be left stopped; over spoken records that is what the fresh run leaves.
pub record PartlyInstalled (first : KeyValue → Says) (request : Request) (entries : Entries) (old : List (List Record)) (held : Held) (new : Option Held) (e : InstallErr) : Type 0 where
  pub world : World
  pub table : List Record
  pub is_left : AreSpoken first (records old) → IsLeft (fresh_run first request entries) world table
  pub kept : List (List Record)
  pub pushed : IsPushed table old kept
  pub readable : AreReadable world kept
  pub plan : Plan
  pub is_plan : IsPlan (holding_of (is_fresh request) held) (held_after world kept) plan
  pub stops : StopsPlan plan held new
  -- a call that had no memory did nothing
  pub clean : e ≡ install.NoMemory → IsMomentOf plan held new

-- it is as before; or the folder's own count of such failures rose, and it is partly installed
abbrev pub StoppedAt : (KeyValue → Says) → Request → Option Held → Option Held → ℕ → ℕ → InstallErr → Type 0
StoppedAt first request told new before now e =
    (new ≡ told) ⊎ (Rose before now × IfSome told (λ held. Keeping (is_fresh request) held (λ entries old. PartlyInstalled first request entries old held new e)))

-- the folder's counts of failed changes, and of calls that had no memory
pub record FolderCounts : Type 0 where
  pub writes : ℕ
  pub memory : ℕ

abbrev pub Leaves : (KeyValue → Says) → Request → Option Held → Option Held → FolderCounts → FolderCounts → Outcome → Type 0
Leaves first request told new before now (out.Ended status launched ran) = IfSome told (λ held. Keeping (is_fresh request) held (λ entries old. AreSpoken first (records old) → EndsSo first (fresh_run first request entries) old held new))
Leaves first request told new before now (out.Special path) = (new ≡ told) × IfSome told (λ held. Refuses (is_fresh request) held (refusal.Special path))
Leaves first request told new before now (out.Damaged file damage) = (new ≡ told) × IfSome told (λ held. Refuses (is_fresh request) held (refusal.Damaged file damage))
Leaves first request told new before now (out.Forged rec step) = (new ≡ told) × IfSome told (λ held. Keeping (is_fresh request) held (λ entries old. TellsForged first request (records old) rec step))
Leaves first request told new before now out.Spent = (new ≡ told) × IfSome told (λ held. Keeping (is_fresh request) held (λ entries old. AreSpoken first (records old) × (fresh_run first request entries ≡ Spent)))
Leaves first request told new before now (out.Said status) = ⊥
Leaves first request told new before now out.WriteFault = StoppedAt first request told new before.writes now.writes install.WriteFault
Leaves first request told new before now out.NoMemory = StoppedAt first request told new before.memory now.memory install.NoMemory
Leaves first request told new before now other = new ≡ told

-- The end.

-- the run ends with this status
abbrev pub EndsWith : Run World → ℕ → Type 0
EndsWith (Done world exit left table) status = status ≡ exit
EndsWith Spent status = ⊥

-- the status is the fresh run's, over records that are spoken
abbrev pub HasStatus : (KeyValue → Says) → Request → Option Held → ℕ → Type 0
HasStatus first request told status =
    IfSome told (λ held. Keeping (is_fresh request) held (λ entries old. AreSpoken first (records old) → EndsWith (fresh_run first request entries) status))

-- Whatever the records: what the run leaves has so many records, and so many of them ran over those that were kept, which paid so
-- many turns; and it is the first that is kept from then on. Over spoken ones it is what the fresh run leaves.
pub record IsTally (first : KeyValue → Says) (request : Request) (entries : Entries) (old : List (List Record)) (held : Held) (new : Option Held) (all some before now : ℕ) : Type 0 where
  pub world : World
  pub table : List Record
  pub is_left : AreSpoken first (records old) → IsLeft (fresh_run first request entries) world table
  pub kept : List (List Record)
  pub pushed : IsPushed table old kept
  pub installed : Installed world kept held new
  pub launched : all ≡ length table
  pub ran : some ≡ ran_count (records old) table
  pub paid : now ≡ before + ran_total (records old) table

abbrev pub Tallies : (KeyValue → Says) → Request → Option Held → Option Held → ℕ → ℕ → ℕ → ℕ → Type 0
Tallies first request told new before now launched ran =
    IfSome told (λ held. Keeping (is_fresh request) held (λ entries old. IsTally first request entries old held new launched ran before now))

-- The sinks: a text of the run by what the folder held, all over an end, all or a front over a stop that came late, and
-- nothing over the others.

-- over spoken records it is the fresh run's text, of which all went out, or a front where the put failed or had no memory
pub record IsTried (first : KeyValue → Says) (request : Request) (text : RunText) (entries : Entries) (kept : List (List Record)) (old new : SinkState) : Type 0 where
  pub it : Text
  pub is_text : AreSpoken first (records kept) → it ≡ text request kept (fresh_run first request entries)
  pub put : PutsLine it old new

-- such a text was put
abbrev pub Tried : (KeyValue → Says) → Request → RunText → Option Held → SinkState → SinkState → Type 0
Tried first request text told old new =
    IfSome told (λ held. Keeping (is_fresh request) held (λ entries kept. IsTried first request text entries kept old new))

-- nothing was put, or such a text
abbrev pub Halts : (KeyValue → Says) → Request → RunText → Option Held → SinkState → SinkState → Type 0
Halts first request text told old new = (new ≡ old) ⊎ Tried first request text told old new

-- over spoken records all of the fresh run's text went out
abbrev pub GainsAll : (KeyValue → Says) → Request → RunText → Option Held → SinkState → SinkState → Type 0
GainsAll first request text told old new =
    IfSome told (λ held. Keeping (is_fresh request) held (λ entries kept. AreSpoken first (records kept) → IsPut (text request kept (fresh_run first request entries)) old new))

-- whatever the records, all of such a text went out
pub record IsOut (first : KeyValue → Says) (request : Request) (text : RunText) (entries : Entries) (kept : List (List Record)) (old new : SinkState) : Type 0 where
  pub it : Text
  pub is_text : AreSpoken first (records kept) → it ≡ text request kept (fresh_run first request entries)
  pub put : IsPut it old new

abbrev pub WentOut : (KeyValue → Says) → Request → RunText → Option Held → SinkState → SinkState → Type 0
WentOut first request text told old new =
    IfSome told (λ held. Keeping (is_fresh request) held (λ entries kept. IsOut first request text entries kept old new))

-- what the output's sink gains; it is put first, so it was put over each write fault
abbrev pub Gains : (KeyValue → Says) → Request → Option Held → SinkState → SinkState → Outcome → Type 0
Gains first request told old new (out.Ended status launched ran) = GainsAll first request output_of told old new
Gains first request told old new out.WriteFault = Tried first request output_of told old new
Gains first request told old new out.NoMemory = Halts first request output_of told old new
Gains first request told old new other = new ≡ old

-- what the error text's sink gains before the outcome's line
abbrev pub GainsErrors : (KeyValue → Says) → Request → Option Held → SinkState → SinkState → Outcome → Type 0
GainsErrors first request told old new (out.Ended status launched ran) = GainsAll first request error_text_of told old new
GainsErrors first request told old new out.WriteFault = Halts first request error_text_of told old new
GainsErrors first request told old new out.NoMemory = Halts first request error_text_of told old new
GainsErrors first request told old new other = new ≡ old

-- the counts of the error text's sink before the outcome's line: faults rise only over a write fault, wants of memory only
-- over want of memory
abbrev pub ErrorsCounted : SinkState → SinkState → Outcome → Type 0
ErrorsCounted before now out.WriteFault = (before.faults ≤ now.faults) × (now.memory ≡ before.memory)
ErrorsCounted before now out.NoMemory = (now.faults ≡ before.faults) × (before.memory ≤ now.memory)
ErrorsCounted before now other = (now.faults ≡ before.faults) × (now.memory ≡ before.memory)

-- The two sinks, each at a moment.
pub record BothSinks : Type 0 where
  pub out : SinkState
  pub err : SinkState

-- the error text is put once all of the output went out
abbrev pub InOrder : (KeyValue → Says) → Request → Option Held → BothSinks → BothSinks → Type 0
InOrder first request told old new = (new.err ≡ old.err) ⊎ WentOut first request output_of told old.out new.out

-- the run's error text, and then the outcome's own line
pub record GainsLine (first : KeyValue → Says) (request : Request) (told : Option Held) (out_old out_new old new : SinkState) (outcome : Outcome) : Type 0 where
  pub worked : SinkState
  pub order : InOrder first request told (record { out = out_old; err = old }) (record { out = out_new; err = worked })
  pub text : GainsErrors first request told old worked outcome
  pub counted : ErrorsCounted old worked outcome
  pub line : Put outcome worked new

-- The counts of faults.

abbrev pub Counted : Counts → Counts → Outcome → Type 0
Counted before now out.ReadFault = Rose before.reads now.reads × (now.writes ≡ before.writes) × (now.puts ≡ before.puts) × (now.error_puts ≡ before.error_puts)
Counted before now out.WriteFault = (now.reads ≡ before.reads) × (Rose before.writes now.writes ⊎ Rose before.puts now.puts ⊎ Rose before.error_puts now.error_puts)
Counted before now other = now ≡ before

-- The outcome's own line, which is put last.

-- elsewhere a put of the line may be one more fault of the error text's sink
abbrev pub AfterLine : Counts → Counts → Outcome → Type 0
AfterLine before now (out.Ended status launched ran) = now ≡ before
AfterLine before now (out.Said status) = now ≡ before
AfterLine before now other = (now.reads ≡ before.reads) × (now.writes ≡ before.writes) × (now.puts ≡ before.puts) × (before.error_puts ≤ now.error_puts)

-- the faults of the work, and then of the line
abbrev pub Faults : Counts → Counts → Outcome → Type 0
Faults before now outcome = (worked : Counts) × Counted before worked outcome × AfterLine worked now outcome

-- none of them rose
abbrev pub NoneRose : Counts → Counts → Type 0
NoneRose before now = now ≡ before

-- it is no fault of reading or writing
abbrev pub IsNoFault : Outcome → Type 0
IsNoFault out.ReadFault = ⊥
IsNoFault out.WriteFault = ⊥
IsNoFault other = Unit {0}

-- The count of turns: none are paid for a folder that is refused, or where a record is found forged by the check of all, and
-- no more than are asked for elsewhere.

abbrev pub Ticked : Request → ℕ → ℕ → Outcome → Type 0
Ticked request before now out.Usage = now ≡ before
Ticked request before now (out.Special path) = now ≡ before
Ticked request before now (out.Damaged file damage) = now ≡ before
Ticked request before now (out.Forged rec step) = (now ≤ before + turns request) × (checks request ≡ true → now ≡ before)
Ticked request before now other = now ≤ before + turns request

-- The count of starts: one for each record that is checked, then one for each command that ran; none where the folder is
-- refused.

-- so many records are checked: none where that isn't asked for
abbrev pub ChecksMany : Request → Option Held → ℕ → Type 0
ChecksMany request told many =
    (checks request ≡ false → many ≡ 0) × IfSome told (λ held. Keeping (is_fresh request) held (λ entries old. many ≡ checked_count (checks request) (records old)))

abbrev pub StartsBoth : Request → Option Held → ℕ → ℕ → ℕ → Type 0
StartsBoth request told before now ran = (many : ℕ) × (ChecksMany request told many × (now ≡ started ran (started many before)))

-- whatever the records: so many commands of a run ran over those that were kept; over spoken ones it is the fresh run
pub record HasRan (first : KeyValue → Says) (request : Request) (entries : Entries) (old : List (List Record)) (ran : ℕ) : Type 0 where
  pub world : World
  pub table : List Record
  pub is_left : AreSpoken first (records old) → IsLeft (fresh_run first request entries) world table
  pub count : ran ≡ ran_count (records old) table

abbrev pub RanSo : (KeyValue → Says) → Request → Option Held → ℕ → Type 0
RanSo first request told ran = IfSome told (λ held. Keeping (is_fresh request) held (λ entries old. HasRan first request entries old ran))

-- so many records are kept
abbrev pub KeepsMany : Request → Option Held → ℕ → Type 0
KeepsMany request told many = IfSome told (λ held. Keeping (is_fresh request) held (λ entries old. many ≡ length (records old)))

-- Where the run is spent: one for each record that is checked; one for each command that ran, which are no more than the
-- turns, beside the script; and one for each record that is kept, since each was looked at.
abbrev pub StartsSpent : Request → Option Held → ℕ → ℕ → Type 0
StartsSpent request told before now =
    (many : ℕ) × (ChecksMany request told many × ((kept : ℕ) × (KeepsMany request told kept × StartsRan (turns request) kept (started many before) now)))

-- Where a read failed or there was no memory: none yet, or some of those of a check, of a run that ended or not, and of a look at
-- each record.
abbrev pub StartsCut : Request → Option Held → ℕ → ℕ → Type 0
StartsCut request told before now =
    (now ≡ before) ⊎ ((kept : ℕ) × (KeepsMany request told kept × StartsUpTo (turns request) (kept + (if checks request then kept else 0)) before now))

-- A run was made before anything is written. A check of all starts the records up to the one that is forged; a run that finds one
-- forged starts no more than each command that ran, and the records up to that one.
abbrev pub Started : (KeyValue → Says) → Request → Option Held → ℕ → ℕ → Outcome → Type 0
Started first request told before now (out.Ended status launched ran) = StartsBoth request told before now ran
Started first request told before now out.Usage = now ≡ before
Started first request told before now (out.Special path) = now ≡ before
Started first request told before now (out.Damaged file damage) = now ≡ before
Started first request told before now (out.Forged rec step) = (checks request ≡ true → now ≡ started (rec + 1) before) × (checks request ≡ false → StartsUpTo (turns request) (rec + 1) before now)
Started first request told before now out.Spent = StartsSpent request told before now
Started first request told before now out.ReadFault = StartsCut request told before now
Started first request told before now out.WriteFault = (ran : ℕ) × (RanSo first request told ran × StartsBoth request told before now ran)
Started first request told before now out.NoMemory = StartsCut request told before now
Started first request told before now (out.Said status) = ⊥

-- where every record is to be checked, each is spoken
abbrev pub Checked : (KeyValue → Says) → Request → Option Held → Type 0
Checked first request told = IfSome told (λ held. Keeping (is_fresh request) held (λ entries old. ChecksWhole first (checks request) (records old)))

-- an outcome that what a folder holds calls for, or want of memory (`Laws.antt` has that it calls for one alone)
abbrev pub Settles : (KeyValue → Says) → Request → Held → Outcome → Type 0
Settles first request held (out.Ended status launched ran) = Keeping (is_fresh request) held (λ entries old. AreSpoken first (records old) → EndsWith (fresh_run first request entries) status)
Settles first request held (out.Special path) = Refuses (is_fresh request) held (refusal.Special path)
Settles first request held (out.Damaged file damage) = Refuses (is_fresh request) held (refusal.Damaged file damage)
Settles first request held (out.Forged rec step) = Keeping (is_fresh request) held (λ entries old. TellsForged first request (records old) rec step)
Settles first request held out.Spent = Keeping (is_fresh request) held (λ entries old. AreSpoken first (records old) × (fresh_run first request entries ≡ Spent))
Settles first request held out.NoMemory = Unit {0}
Settles first request held other = ⊥
