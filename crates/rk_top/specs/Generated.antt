-- What a made workload comes to: the session of builds and edits that a seed makes, and the line that tells it.
use Rattle.std.specs.Prelude.{◌≡◌, ◌⊎◌, ℕ, zero, suc, ◌+◌, ◌-◌, ◌≤◌, List, length, drop, false, Option, option_map}
use Rattle.rk_base.specs.Text.{Text}
use Rattle.rk_calls.specs.Keys.{KeyValue}
use Rattle.rk_calls.specs.Talk.{Says}
use Rattle.tr_record.specs.Generations.{IsPushed, records}
use Rattle.tr_record.specs.declared.records.Record.{Record}
use Rattle.rk_folder.specs.Memory.{held_by}
use Rattle.rk_folder.specs.Sinks.{with_bytes}
use Rattle.rk_folder.specs.Told.{Held, root_alone}
use Rattle.rk_gen.specs.Edits.{edited}
use Rattle.rk_gen.specs.Start.{Made, files_of, made_of}
use Rattle.rk_gen.specs.Summary.{Sums, added, no_figures, summary}
use Rattle.rk_gen.specs.declared.edits.Edit.{Edit}
use Rattle.rk_gen.specs.Changed.{changed, with_files}
use Rattle.rk_changes.specs.Holdings.{IsAfter}
use Rattle.rk_kernel.specs.World.{World}
use Rattle.rk_replay.specs.Ran.{ran_total}
use Rattle.rk_traces.specs.Run.{Outcome as Run, Done, Spent}
use Rattle.rk_request.specs.declared.requests.Request.{Request}
use Rattle.rk_request.specs.declared.requests.Request.TheVariants.{Build}
use Rattle.rk_build.specs.Fresh.{held_after}
use Rattle.rk_build.specs.Kept.{AreTables, Keeping, state_in}
use Rattle.rk_build.specs.Outcomes.{IsNext}
use Rattle.rk_build.specs.Run.{fresh_run, ran_count}
use Rattle.rk_build.specs.Texts.{Front}
use Rattle.rk_top.specs.declared.generate.Session.{Session}
use Rattle.rk_build.specs.declared.outcome.Outcome.{Outcome}
use Rattle.rk_build.specs.declared.outcome.Outcome.TheVariants as out

-- the database is absent or spells tables of records
abbrev pub KeepsTables : Held → Type 0
KeepsTables held = (kept : List (List Record)) × AreTables (state_in held).db kept

-- a build with the default budget, of which nothing else is asked
abbrev pub plain_build : Request
plain_build = Build 1000000 false false false

-- where a session stands: what the folder holds, and the figures so far
pub record Stage : Type 0 where
  pub held : Held
  pub sums : Sums

abbrev pub stage_of : Session → Stage
stage_of session = record { held = held_by session.folder; sums = session.figures }

-- A build that ends: the folder holds what the fresh run leaves, its trace first among those that are kept, the next build begins
-- with just that, and its figures are added.
pub record Ends (world : World) (table : List Record) (old : List (List Record)) (before after : Stage) : Type 0 where
  pub kept : List (List Record)
  pub pushed : IsPushed table old kept
  pub is_after : IsAfter before.held after.held (held_after world kept)
  pub next : IsNext world kept after.held
  pub sums : after.sums ≡ added (length table) (ran_count (records old) table) (ran_total (records old) table) before.sums

-- where it is spent, all stays as it is
abbrev pub ComesTo : Run World → List (List Record) → Stage → Stage → Type 0
ComesTo (Done world status left table) old before after = Ends world table old before after
ComesTo Spent old before after = after ≡ before

-- a build goes by the fresh run on the present tree
abbrev pub IsBuilt : (KeyValue → Says) → Stage → Stage → Type 0
IsBuilt first before after = Keeping false before.held (λ entries old. ComesTo (fresh_run first plain_build entries) old before after)

-- a seed's folder, before the first build
abbrev pub start_of : ℕ → Stage
start_of seed = record { held = with_files (files_of seed) root_alone; sums = no_figures }

-- a seed's workload after so many edits
unfoldable pub workload_after : ℕ → ℕ → Made
workload_after seed zero = made_of seed
workload_after seed (suc n) = (edited (workload_after seed n)).after

-- the edit that comes after so many
abbrev pub edit_after : ℕ → ℕ → Edit
edit_after seed n = (edited (workload_after seed n)).edit

abbrev pub edited_stage : Edit → Stage → Stage
edited_stage edit stage = record stage { held = changed edit stage.held }

-- The session of a seed may come to this: a build, and then so many rounds of an edit and a build.
unfoldable pub Reaches : (KeyValue → Says) → ℕ → ℕ → Stage → Type 0
Reaches first seed zero stage = IsBuilt first (start_of seed) stage
Reaches first seed (suc n) stage = (before : Stage) × (Reaches first seed n before × IsBuilt first (edited_stage (edit_after seed n) before) stage)

-- the digest with which the bytes of the database end, where it stands
abbrev pub digest_of : Text → Text
digest_of db = drop (length db - 32) db

abbrev pub last_digest : Held → Option Text
last_digest held = option_map digest_of (state_in held).db

-- the line that tells a stage of a seed's session
abbrev pub line_of_stage : ℕ → Stage → Text
line_of_stage seed stage = summary seed stage.sums (last_digest stage.held)

-- The line of the seed's whole session, of 20 rounds; the count of turns rose by those that the line tells at least.
pub record IsLine (first : KeyValue → Says) (seed before now : ℕ) (line : Text) : Type 0 where
  pub stage : Stage
  pub session : Reaches first seed 20 stage
  pub told : line ≡ line_of_stage seed stage
  pub paid : before + stage.sums.turns ≤ now

-- a seed has one line, whatever the counts of turns
abbrev pub HaveOneLine : Type 0
HaveOneLine = (first : KeyValue → Says) (seed before now : ℕ) (line : Text) (before' now' : ℕ) (line' : Text) → IsLine first seed before now line → IsLine first seed before' now' line' → line ≡ line'

-- of that line this is so
abbrev pub OfLine : (KeyValue → Says) → ℕ → ℕ → ℕ → (Text → Type 0) → Type 0
OfLine first seed before now P = (line : Text) × (IsLine first seed before now line × P line)

-- what is said of a seed: its line; a front of it where the put failed; and nothing, or a front, where there was no memory
abbrev pub Generates : (KeyValue → Says) → ℕ → ℕ → ℕ → Option Text → Option Text → Outcome → Type 0
Generates first seed before now old new (out.Said status) = (status ≡ 0) × OfLine first seed before now (λ line. new ≡ with_bytes line old)
Generates first seed before now old new out.WriteFault = OfLine first seed before now (λ line. Front line old new)
Generates first seed before now old new out.NoMemory = (new ≡ old) ⊎ OfLine first seed before now (λ line. Front line old new)
Generates first seed before now old new other = ⊥
