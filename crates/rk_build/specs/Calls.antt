-- What a build asks of a folder that tells what it holds and keeps its calls.
use Rattle.std.specs.Prelude.{◌⊎◌, ℕ, List, Option, Some, IfSome, Result, Err}
use Rattle.rk_calls.specs.Keys.{KeyValue}
use Rattle.rk_calls.specs.Talk.{Says}
use Rattle.rk_folder.specs.Fetching.{MakesReads}
use Rattle.rk_folder.specs.Looks.{LooksInOrder, looks}
use Rattle.rk_folder.specs.Schedule.{Schedule, MakesCalls}
use Rattle.rk_folder.specs.Told.{Held}
use Rattle.rk_folder.specs.declared.folder.FolderCall.{FolderCall}
use Rattle.rk_kernel.specs.World.{World}
use Rattle.rk_traces.specs.Spoken.{AreSpoken}
use Rattle.rk_tree.specs.Entries.{Entries}
use Rattle.tr_record.specs.Generations.{IsPushed, records}
use Rattle.tr_record.specs.declared.records.Record.{Record}
use Rattle.rk_request.specs.Asked.{is_fresh}
use Rattle.rk_request.specs.declared.requests.Request.{Request}
use Rattle.rk_install.specs.Asked.{plan_calls}
use Rattle.rk_seal.specs.declared.plan.Plan.{Plan}
use Rattle.rk_build.specs.Fresh.{held_after}
use Rattle.rk_changes.specs.Imported.{holding_of}
use Rattle.rk_build.specs.Kept.{Keeping}
use Rattle.rk_build.specs.Outcomes.{IsLeft}
use Rattle.rk_changes.specs.Planned.{IsPlan}
use Rattle.rk_build.specs.Run.{fresh_run}
use Rattle.rk_build.specs.declared.stop.BuildErr.{BuildErr}
use Rattle.rk_build.specs.declared.stop.BuildErr.TheVariants as stop
use Rattle.rk_build.specs.declared.outcome.Outcome.{Outcome}
use Rattle.rk_build.specs.declared.outcome.Outcome.TheVariants as out

-- some of these calls, each once at most and in their order, and then reads of files that are listed
abbrev pub LooksThenReads : Held → List FolderCall → Option Schedule → Option Schedule → Type 0
LooksThenReads held all before now = (on : Option Schedule) × MakesCalls all before on × MakesReads (Some held) on now

-- Whatever the records: the calls of a look at it, each once at most and in this order; then reads of files that are
-- listed, while the script ran and what it left was compared; and then the calls of the install of what leads to what a run left, each once at most, in this
-- order, and no other. Over spoken records that is what the fresh run leaves.
pub record AsksPlan (first : KeyValue → Says) (request : Request) (reach : ℕ) (entries : Entries) (old : List (List Record)) (held : Held) (before now : Option Schedule) : Type 0 where
  pub world : World
  pub table : List Record
  pub is_left : AreSpoken first (records old) → IsLeft (fresh_run first request entries) world table
  pub kept : List (List Record)
  pub pushed : IsPushed table old kept
  pub plan : Plan
  pub is_plan : IsPlan (holding_of (is_fresh request) held) (held_after world kept) plan
  pub calls : (on : Option Schedule) × LooksThenReads held (looks (is_fresh request) reach held) before on × MakesCalls (plan_calls plan) on now

abbrev pub AsksAll : (KeyValue → Says) → Request → ℕ → Option Held → Option Schedule → Option Schedule → Type 0
AsksAll first request reach told before now =
    IfSome told (λ held. Keeping (is_fresh request) held (λ entries old. AsksPlan first request reach entries old held before now))

-- it was looked at, and files were read
abbrev pub ReadsAlone : Request → ℕ → Option Held → Option Schedule → Option Schedule → Type 0
ReadsAlone request reach told before now = IfSome told (λ held. LooksThenReads held (looks (is_fresh request) reach held) before now)

-- Over an outcome for which nothing is installed it is looked at and files are read; where it is refused as it stands, no file is.
unfoldable pub AsksSo : (KeyValue → Says) → Request → ℕ → Option Held → Option Schedule → Option Schedule → Outcome → Type 0
AsksSo first request reach told before now (out.Ended status launched ran) = AsksAll first request reach told before now
AsksSo first request reach told before now out.WriteFault = AsksAll first request reach told before now
AsksSo first request reach told before now out.NoMemory = ReadsAlone request reach told before now ⊎ AsksAll first request reach told before now
AsksSo first request reach told before now (out.Special path) = LooksInOrder told (looks (is_fresh request) reach) before now
AsksSo first request reach told before now (out.Damaged file damage) = LooksInOrder told (looks (is_fresh request) reach) before now
AsksSo first request reach told before now other = ReadsAlone request reach told before now

-- what is asked until the plan stands: as over the outcome, where the build stops before
abbrev pub PreparesCalls : {T : Type 0} → Request → ℕ → Option Held → Option Schedule → Option Schedule → Result T BuildErr → Type 0
PreparesCalls request reach told before now (Err (stop.Refused refusal)) = LooksInOrder told (looks (is_fresh request) reach) before now
PreparesCalls request reach told before now other = ReadsAlone request reach told before now
