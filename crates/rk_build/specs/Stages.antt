-- What each stage of a build tells.
use Rattle.std.specs.Prelude.{◌≡◌, ◌⊎◌, ◌≤◌, ◌+◌, ◌++◌, ℕ, length, Bool, true, List, Option, Some, None, IfSome, option_map, Result, Ok, Err}
use Rattle.rk_calls.specs.Keys.{KeyValue}
use Rattle.rk_calls.specs.Talk.{Says}
use Rattle.rk_folder.specs.Told.{Held}
use Rattle.rk_folder.specs.Counts.{Rose}
use Rattle.rk_folder.specs.Import.{snapshot_of}
use Rattle.rk_folder.specs.Attributes.{with_rows}
use Rattle.rk_folder.specs.Specials.{first_special}
use Rattle.rk_folder.specs.declared.importing.ImportErr.{ImportErr}
use Rattle.rk_folder.specs.declared.importing.ImportErr.TheVariants as import
use Rattle.rk_install.specs.Install.{AllowsPlan, IsMomentOf, StopsPlan, carried}
use Rattle.rk_seal.specs.declared.plan.Plan.{Plan}
use Rattle.rk_changes.specs.Holdings.{IsAfter, full_holding}
use Rattle.rk_changes.specs.Imported.{holding_of, listed_holding}
use Rattle.rk_changes.specs.Planned.{IsPlan}
use Rattle.rk_changes.specs.declared.holding.Holding.{Holding}
use Rattle.std.specs.List.{AllByRecursion}
use Rattle.tr_codec.specs.Fits.{Fits}
use Rattle.tr_codec.specs.Sound.{IsSound}
use Rattle.tr_kept.specs.KeptSpelling.{FitsKept}
use Rattle.rk_kernel.specs.World.{World}
use Rattle.rk_kernel.specs.declared.answer_err.AnswerErr.{AnswerErr}
use Rattle.rk_kernel.specs.declared.answer_err.AnswerErr.TheVariants as answer
use Rattle.rk_tree.specs.Copies.{snapshot_of as entries_of}
use Rattle.rk_tree.specs.Entries.{Entries, IsWholeSnapshot}
use Rattle.rk_tree.specs.Full.{Told}
use Rattle.rk_tree.specs.declared.fetch.FetchErr.{FetchErr}
use Rattle.rk_tree.specs.declared.fetch.FetchErr.TheVariants as fetch
use Rattle.rk_attrs.specs.declared.rows.AttrRow.{AttrRow}
use Rattle.tr_record.specs.Generations.{AreGenerations, IsPushed, records}
use Rattle.tr_record.specs.declared.records.Record.{Record}
use Rattle.rk_replay.specs.declared.build.Built.{Built}
use Rattle.rk_base.specs.Text.{Text}
use Rattle.rk_traces.specs.Run.{Spent}
use Rattle.rk_traces.specs.Spoken.{AreSpoken}
use Rattle.rk_request.specs.Asked.{checks, is_fresh, turns}
use Rattle.rk_request.specs.declared.requests.Request.{Request}
use Rattle.rk_build.specs.Checks.{ChecksWhole, TellsForged}
use Rattle.rk_build.specs.Run.{IsReplay, IsRun, IsRunInFull, StopsRun, fresh_run}
use Rattle.rk_build.specs.Explained.{explanation}
use Rattle.rk_build.specs.Fresh.{AreReadable, held_after}
use Rattle.rk_build.specs.Kept.{IsKept, Keeping, Refuses, state_in, decoded}
use Rattle.rk_build.specs.Outcomes.{IsNext, Started, StartsBoth, outcome_of_stop}
use Rattle.rk_build.specs.Texts.{IsNoFault}
use Rattle.rk_build.specs.declared.stop.Refusal.TheVariants as refusal
use Rattle.rk_build.specs.declared.found.Found.{Found}
use Rattle.rk_build.specs.declared.work.Ended.{Ended}
use Rattle.rk_build.specs.declared.work.Finished.{Finished}
use Rattle.rk_build.specs.declared.work.Prepared.{Prepared}
use Rattle.rk_build.specs.declared.stop.BuildErr.{BuildErr}
use Rattle.rk_build.specs.declared.stop.BuildErr.TheVariants as stop

abbrev pub stop_of : ImportErr → BuildErr
stop_of (import.Special path) = stop.Refused (refusal.Special path)
stop_of import.ReadFault = stop.ReadFault
stop_of import.NoMemory = stop.NoMemory

abbrev pub stop_of_answer : AnswerErr → BuildErr
stop_of_answer answer.ReadFault = stop.ReadFault
stop_of_answer answer.NoMemory = stop.NoMemory

abbrev pub stop_of_fetch : FetchErr → BuildErr
stop_of_fetch fetch.Failed = stop.ReadFault
stop_of_fetch fetch.NoMemory = stop.NoMemory

-- nothing is special and this is what the folder holds, as it is listed; or this is the first special path
abbrev pub LooksSo : Bool → Option Held → Result Holding BuildErr → Type 0
LooksSo fresh told (Ok holding) = IfSome told (λ held. (first_special held ≡ None) × (holding ≡ listed_holding fresh held))
LooksSo fresh told (Err (stop.Refused (refusal.Special path))) = IfSome told (λ held. first_special held ≡ Some path)
LooksSo fresh told (Err stop.ReadFault) = Unit {0}
LooksSo fresh told (Err stop.NoMemory) = Unit {0}
LooksSo fresh told (Err other) = ⊥

-- a read fault only where the count rose
abbrev pub ReadsCounted : {T : Type 0} → ℕ → ℕ → Result T BuildErr → Type 0
ReadsCounted before now (Err stop.ReadFault) = Rose before now
ReadsCounted before now other = now ≡ before

-- a steady folder stays steady, and then nothing is a fault
abbrev pub Steadily : {T : Type 0} → Bool → Bool → Result T BuildErr → Type 0
Steadily before now result = (now ≡ before) × (before ≡ true → IsNoFault result)

-- nothing is special, this is what the folder holds, as it is listed, and these are the tables and the rows that it keeps; or why
-- it is refused
abbrev pub FindsSo : Request → Option Held → Result Found BuildErr → Type 0
FindsSo request told (Ok found) = IfSome told (λ held. (first_special held ≡ None) × (found.holding ≡ listed_holding (is_fresh request) held) × IsKept (decoded (is_fresh request) (state_in held)) found.attrs found.old)
FindsSo request told (Err (stop.Refused refusal)) = IfSome told (λ held. Refuses (is_fresh request) held refusal)
FindsSo request told (Err stop.ReadFault) = Unit {0}
FindsSo request told (Err stop.NoMemory) = Unit {0}
FindsSo request told (Err other) = ⊥

-- the entries that were found, with the rows of attributes
abbrev pub found_entries : Found → Entries
found_entries found = with_rows found.holding.entries found.attrs

-- the plan leads on, or its install stopped
abbrev pub InstallsSo : {T : Type 0} → Plan → Option Held → Option Held → Result T BuildErr → Type 0
InstallsSo plan old new (Ok it) = new ≡ option_map (carried plan) old
InstallsSo plan old new (Err stop.WriteFault) = IfSome old (λ held. StopsPlan plan held new)
InstallsSo plan old new (Err stop.NoMemory) = IfSome old (λ held. StopsPlan plan held new) × IfSome old (λ held. IsMomentOf plan held new)
InstallsSo plan old new (Err other) = ⊥

-- a write fault only where the count rose
abbrev pub WritesCounted : {T : Type 0} → ℕ → ℕ → Result T BuildErr → Type 0
WritesCounted before now (Err stop.WriteFault) = Rose before now
WritesCounted before now other = now ≡ before

-- want of memory that isn't the folder's leaves it as it was; else the count of it rose
abbrev pub MemoryRose : {T : Type 0} → Option Held → Option Held → ℕ → ℕ → Result T BuildErr → Type 0
MemoryRose old new before now (Err stop.NoMemory) = (new ≡ old) ⊎ Rose before now
MemoryRose old new before now other = now ≡ before

-- What the run on what was found has come to, over the records that were found.
pub record HasRun (first : KeyValue → Says) (request : Request) (told : Option Told) (found : Found) (before now : ℕ) (f : Finished) : Type 0 where
  pub replay : IsReplay (records found.old) before now f.built
  pub run : IsRunInFull first request told (found_entries found) (records found.old) f.world f.built

abbrev pub FinishesSo : (KeyValue → Says) → Request → Option Told → Found → ℕ → ℕ → Result Finished BuildErr → Type 0
FinishesSo first request told found before now (Ok f) = HasRun first request told found before now f
FinishesSo first request told found before now (Err e) = StopsRun first request told (found_entries found) (records found.old) e

-- how a run ended: its status, how many commands were launched, and those of them that ran
abbrev pub ended_of : Built → Ended
ended_of built = record { status = built.status; launched = length built.table; ran = built.ran }

-- these tables may be kept, and each has a spelling, where in each of its records the answers fit the calls
pub record MayFit (kept : List (List Record)) : Type 0 where
  pub are : AreGenerations kept
  pub fits : AllByRecursion (λ table. AllByRecursion IsSound table → Fits table) kept

-- What the run left is pushed to what was kept, which has a spelling then, where each answer fits its call; and the plan leads from
-- what was found to what is to be held, both in full, where the bytes of files are told.
pub record IsPlanned (request : Request) (told : Option Told) (found : Found) (built : Built) (p : Prepared) : Type 0 where
  pub ended : p.ended ≡ ended_of built
  pub kept : List (List Record)
  pub pushed : IsPushed built.table found.old kept
  pub fits : MayFit kept
  pub text : p.error_text ≡ p.world.err ++ explanation request built.ran (length built.table)
  pub whole : IsWholeSnapshot (entries_of p.world.tree)
  pub readable : AreReadable p.world kept
  pub plan : IfSome told (λ t. IsPlan (full_holding t found.holding) (full_holding t (held_after p.world kept)) p.plan)

pub record IsWork (first : KeyValue → Says) (request : Request) (told : Option Told) (found : Found) (before now : ℕ) (p : Prepared) : Type 0 where
  pub built : Built
  pub ran : HasRun first request told found before now (record { world = p.world; built = built })
  pub planned : IsPlanned request told found built p

abbrev pub WorksSo : (KeyValue → Says) → Request → Option Told → Found → ℕ → ℕ → Result Prepared BuildErr → Type 0
WorksSo first request told found before now (Ok p) = IsWork first request told found before now p
WorksSo first request told found before now (Err e) = StopsRun first request told (found_entries found) (records found.old) e

-- The run on what the folder holds with its rows, over the records that it keeps, has ended so, and the plan leads to what
-- it leaves, each file with its bytes; over spoken records what is kept then has a spelling, and the next build finds just that.
pub record IsPrepared (first : KeyValue → Says) (request : Request) (held : Held) (before now : ℕ) (p : Prepared) : Type 0 where
  pub plain : first_special held ≡ None
  pub rows : List (Text × AttrRow)
  pub old : List (List Record)
  pub kept : IsKept (decoded (is_fresh request) (state_in held)) rows old
  pub checked : ChecksWhole first (checks request) (records old)
  pub built : Built
  pub ended : p.ended ≡ ended_of built
  pub replay : IsReplay (records old) before now built
  pub world : World
  pub out : p.world.out ≡ world.out
  pub run : IsRun first request (with_rows (snapshot_of held) rows) (records old) world built
  pub text : p.error_text ≡ world.err ++ explanation request built.ran (length built.table)
  pub left : List (List Record)
  pub pushed : IsPushed built.table old left
  pub plan : IsPlan (holding_of (is_fresh request) held) (held_after world left) p.plan
  pub allowed : AllowsPlan p.plan held
  pub leads : IsAfter held (carried p.plan held) (held_after world left)
  pub readable : AreReadable world left
  pub fits : AreSpoken first (records old) → FitsKept left
  pub next : AreSpoken first (records old) → IsNext world left (carried p.plan held)

abbrev pub PreparesSo : (KeyValue → Says) → Request → Option Held → ℕ → ℕ → Result Prepared BuildErr → Type 0
PreparesSo first request told before now (Ok p) = IfSome told (λ held. IsPrepared first request held before now p) × (now ≤ before + turns request)
PreparesSo first request told before now (Err (stop.Refused refusal)) = IfSome told (λ held. Refuses (is_fresh request) held refusal) × (now ≡ before)
PreparesSo first request told before now (Err (stop.Forged rec step)) = IfSome told (λ held. Keeping (is_fresh request) held (λ entries old. TellsForged first request (records old) rec step)) × (now ≤ before + turns request) × (checks request ≡ true → now ≡ before)
PreparesSo first request told before now (Err stop.Spent) = IfSome told (λ held. Keeping (is_fresh request) held (λ entries old. AreSpoken first (records old) × (fresh_run first request entries ≡ Spent))) × (now ≤ before + turns request)
PreparesSo first request told before now (Err stop.ReadFault) = now ≤ before + turns request
PreparesSo first request told before now (Err stop.NoMemory) = now ≤ before + turns request
PreparesSo first request told before now (Err stop.WriteFault) = ⊥

-- A machine was started for each record that is checked and then for each command that ran; where a stage stops, what is said of
-- the outcome that it comes to.
abbrev pub StartsSo : {T : Type 0} → (T → ℕ) → (KeyValue → Says) → Request → Option Held → ℕ → ℕ → Result T BuildErr → Type 0
StartsSo ran first request told before now (Ok it) = StartsBoth request told before now (ran it)
StartsSo ran first request told before now (Err e) = Started first request told before now (outcome_of_stop e)
