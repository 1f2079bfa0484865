-- What the call does for each request.
use Rattle.std.specs.Prelude.{◌≡◌, ◌≢◌, ◌⊎◌, ◌++◌, [], List, true, Some, None, IfSome}
use Rattle.rk_base.specs.Text.{Text}
use Rattle.rk_folder.specs.Counts.{Rose, Still}
use Rattle.rk_folder.specs.Hidden.{db_file}
use Rattle.rk_folder.specs.Looks.{reads, removes, state_listings}
use Rattle.rk_folder.specs.Schedule.{MakesCalls}
use Rattle.rk_folder.specs.Specials.{first_special}
use Rattle.rk_folder.specs.Told.{Held}
use Rattle.rk_traces.specs.Run.{Spent}
use Rattle.rk_traces.specs.Spoken.{AreSpoken}
use Rattle.rk_request.specs.Asked.{IfBuild, IfGen, IfQuery, is_fresh, request_of}
use Rattle.rk_folder.specs.declared.folder.FolderCall.{FolderCall}
use Rattle.rk_request.specs.declared.requests.Request.{Request}
use Rattle.rk_request.specs.declared.requests.Request.TheVariants as asked
use Rattle.tr_record.specs.Generations.{records}
use Rattle.rk_build.specs.Calls.{AsksSo}
use Rattle.rk_build.specs.Checks.{TellsForged}
use Rattle.rk_build.specs.Kept.{IsDamaged, Keeping, decoded, state_in}
use Rattle.rk_build.specs.Outcomes.{Checked, Counted, ErrorsCounted, Faults, Gains, GainsErrors, GainsLine, HasStatus, IfDamaged, IfEnded, IfForged, IfSpecial, InOrder, IsNoFault, Leaves, NoneRose, Settles, Tallies, Ticked}
use Rattle.rk_build.specs.Run.{fresh_run}
use Rattle.rk_build.specs.declared.outcome.Outcome.{Outcome}
use Rattle.rk_build.specs.declared.outcome.Outcome.TheVariants as out
use Rattle.rk_top.specs.Asks.{Asks, AsksBuild, AsksQuery}
use Rattle.rk_top.specs.First.{first_talk}
use Rattle.rk_top.specs.Generated.{Generates}
use Rattle.rk_top.specs.Outside.{GainsLineAlone, IsSteady, Outside, counts, folder_counts, sinks}
use Rattle.rk_top.specs.Queries.{Queried}

-- Of a build.
pub record Builds (request : Request) (before now : Outside) (outcome : Outcome) : Type 0 where
  -- What the folder holds afterwards: over an end, and records that are spoken, what the fresh run on the present tree
  -- leaves, and what the next build begins with. After a failure it is as before, or the folder's own count of such failures
  -- rose.
  pub folder : Leaves first_talk request before.held now.held (folder_counts before) (folder_counts now) outcome
  -- The status is the fresh run's. Whatever the records: how many were left, how many of their commands ran over those that
  -- were kept, and the turns that these paid. Where every record is to be checked, each is spoken.
  pub status : IfEnded outcome (λ status launched ran. HasStatus first_talk request before.held status)
  pub tally : IfEnded outcome (λ status launched ran. Tallies first_talk request before.held now.held before.live now.live launched ran)
  pub checked : IfEnded outcome (λ status launched ran. Checked first_talk request before.held)
  pub live : Ticked request before.live now.live outcome
  -- What a folder that keeps its calls was asked: a listing of each directory and the state files, then reads of listed files
  -- outside `.rkr`, and then the planned calls, each once at most, in this order, and nothing else; where nothing is installed,
  -- it is looked at alone.
  pub calls : AsksSo first_talk request before.reach before.held before.schedule now.schedule outcome
  -- What the output gained.
  pub output : Gains first_talk request before.held before.out now.out outcome
  -- Special only with the first special path; Damaged only with the first state file that is damaged, and its damage; Forged
  -- only with a record that its command doesn't say, and the first wrong step; Spent only where each record is spoken and the
  -- fresh run is spent.
  pub special : IfSpecial outcome (λ path. IfSome before.held (λ held. first_special held ≡ Some path))
  pub damaged : IfDamaged outcome (λ file damage. IfSome before.held (λ held. (first_special held ≡ None) × IsDamaged (decoded (is_fresh request) (state_in held)) file damage))
  pub forged : IfForged outcome (λ rec step. IfSome before.held (λ held. Keeping (is_fresh request) held (λ entries old. TellsForged first_talk request (records old) rec step)))
  pub spent : outcome ≡ out.Spent → IfSome before.held (λ held. Keeping (is_fresh request) held (λ entries old. AreSpoken first_talk (records old) × (fresh_run first_talk request entries ≡ Spent)))
  -- With no count that rose, the outcome is the one that what the folder holds calls for.
  pub complete : (held : Held) → before.held ≡ Some held → Still before.reads now.reads → Still before.writes now.writes → Still before.out.faults now.out.faults → Still before.err.faults now.err.faults → Settles first_talk request held outcome

-- Of a build before the outcome's line: the error text too, which gains nothing unless all of the output went out.
pub record BuildWorks (request : Request) (before now : Outside) (outcome : Outcome) : Type 0 where
  pub builds : Builds request before now outcome
  pub errors : GainsErrors first_talk request before.held before.err now.err outcome
  pub order : InOrder first_talk request before.held (sinks before) (sinks now)

-- What is asked of the folder for what is asked of the database alone: the listings of the root and of `.rkr`, and then that the
-- database is read, or removed.
abbrev pub query_calls : Request → List FolderCall
query_calls asked.Check = state_listings ++ reads db_file
query_calls (asked.Trace json) = state_listings ++ reads db_file
query_calls asked.Forget = state_listings ++ removes db_file
query_calls other = []

-- Of what is asked of the database alone before the outcome's line: nothing is paid, and nothing put on the error text; and
-- the folder is asked for these calls and for no other.
pub record QueryWorks (request : Request) (before now : Outside) : Type 0 where
  pub live : now.live ≡ before.live
  pub errors : now.err.so_far ≡ before.err.so_far
  pub looks : MakesCalls (query_calls request) before.schedule now.schedule

-- What is done for a request before the outcome's line is put.
pub record Works (request : Request) (before now : Outside) (outcome : Outcome) : Type 0 where
  pub asked : outcome ≢ out.Usage
  pub build : IfBuild request (BuildWorks request before now outcome)
  pub queried : Queried first_talk request before.held now.held before.out.so_far now.out.so_far outcome
  pub query : IfQuery request (QueryWorks request before now)
  pub generated : IfGen request (λ seed. Generates first_talk seed before.live now.live before.out.so_far now.out.so_far outcome)
  pub apart : IfGen request (λ seed. (now.held ≡ before.held) × (now.err.so_far ≡ before.err.so_far))
  pub counted : Counted (counts before) (counts now) outcome
  pub error_counts : ErrorsCounted before.err now.err outcome
  pub steady : IsSteady before → (now.steady.err ≡ true) × IsNoFault outcome

-- What the whole call does, from where a sealed list of calls was finished (`Recovers.antt`).
pub record Serves (words : List Text) (before now : Outside) (outcome : Outcome) : Type 0 where
  -- Usage exactly where the words are no request, unless there is no memory to read them; then nothing is touched, and the
  -- outcome's line alone is put.
  pub usage : outcome ≡ out.Usage → request_of words ≡ None
  pub refused : request_of words ≡ None → (outcome ≡ out.Usage) ⊎ (outcome ≡ out.NoMemory)
  pub untouched : request_of words ≡ None → (now.held ≡ before.held) × (now.out.so_far ≡ before.out.so_far) × (now.live ≡ before.live)
  pub unasked : request_of words ≡ None → GainsLineAlone before.err now.err outcome
  -- Of a build. What was put: the run's output, once all of it went out the error text, and then the outcome's own line, whole
  -- unless that put failed or had no memory.
  pub build : AsksBuild words (λ request. Builds request before now outcome)
  pub errors : AsksBuild words (λ request. GainsLine first_talk request before.held before.out now.out before.err now.err outcome)
  -- Of what is asked of the database alone: the folder and the output; nothing is paid, and nothing put on the error text but
  -- the outcome's line; and the folder is asked for its calls (`query_calls`), each once at most, in their order, and for no other.
  pub queried : Asks words (λ request. Queried first_talk request before.held now.held before.out.so_far now.out.so_far outcome)
  pub silent : AsksQuery words (λ request. (now.live ≡ before.live) × GainsLineAlone before.err now.err outcome)
  pub looks : AsksQuery words (λ request. MakesCalls (query_calls request) before.schedule now.schedule)
  -- Of a made workload: the line of the session that its seed makes, and the turns that it tells; the folder stays as it was,
  -- and nothing is put on the error text but the outcome's line.
  pub generated : Asks words (λ request. IfGen request (λ seed. Generates first_talk seed before.live now.live before.out.so_far now.out.so_far outcome))
  pub apart : Asks words (λ request. IfGen request (λ seed. (now.held ≡ before.held) × GainsLineAlone before.err now.err outcome))
  -- A fault is told only where a count for it rose in this call, and none over a folder and sinks that are steady.
  pub read_fault : outcome ≡ out.ReadFault → Rose before.reads now.reads
  pub write_fault : outcome ≡ out.WriteFault → Rose before.writes now.writes ⊎ Rose before.out.faults now.out.faults ⊎ Rose before.err.faults now.err.faults
  pub faults : Faults (counts before) (counts now) outcome
  pub steady : IsSteady before → IsNoFault outcome × NoneRose (counts before) (counts now)
