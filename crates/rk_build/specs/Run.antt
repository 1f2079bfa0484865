-- The run of a folder's script.
use Rattle.std.specs.Prelude.{◌≡◌, ◌≢◌, true, [], ℕ, ◌+◌, ◌≤◌, List, length, Option, IfSome, Result, Ok, Err}
use Rattle.rk_calls.specs.Refs.{top_refs}
use Rattle.rk_calls.specs.Keys.{KeyValue}
use Rattle.rk_calls.specs.Talk.{Says}
use Rattle.tr_record.specs.declared.records.Record.{Record}
use Rattle.rk_tree.specs.Entries.{Entries}
use Rattle.rk_tree.specs.Full.{Told, full_entries}
use Rattle.rk_kernel.specs.Full.{full_world}
use Rattle.rk_kernel.specs.World.{World, fresh_world}
use Rattle.rk_kernel.specs.Do.{answered}
use Rattle.rk_traces.specs.Run.{Outcome, Done, Spent, environment, fresh}
use Rattle.rk_traces.specs.Spoken.{AreSpoken}
use Rattle.tr_codec.specs.Sound.{IsSound}
use Rattle.std.specs.List.{AllByRecursion}
use Rattle.rk_request.specs.Asked.{turns}
use Rattle.rk_request.specs.declared.requests.Request.{Request}
use Rattle.rk_replay.specs.Ran.{AreStill, ran_of, ran_total}
use Rattle.rk_replay.specs.Script.{script_key}
use Rattle.rk_replay.specs.Starts.{StartsRan, StartsUpTo}
use Rattle.rk_replay.specs.declared.build.Built.{Built}
use Rattle.rk_traces.specs.Started.{started}
use Rattle.rk_build.specs.Checks.{IsForged}
use Rattle.rk_build.specs.declared.stop.BuildErr.{BuildErr}
use Rattle.rk_build.specs.declared.stop.BuildErr.TheVariants as stop

-- the run of the script, by what the command of each key says, on a tree of these entries, in which nothing is recorded
-- yet, within the turns that are asked for
unfoldable pub fresh_run : (KeyValue → Says) → Request → Entries → Outcome World
fresh_run first request entries = fresh (environment first answered) (turns request) script_key top_refs (fresh_world entries)

-- how many commands of a table ran, over these old records: those whose talk equals no old record of their key
abbrev pub ran_count : List Record → List Record → ℕ
ran_count old table = length (ran_of old table)

-- Whatever the records: which commands ran over the old ones, and why; and the turns that these paid. At the least the script was
-- launched; and each record is the old one of its number, where that is told.
pub record IsReplay (old : List Record) (before now : ℕ) (b : Built) : Type 0 where
  pub some : b.table ≢ []
  pub still : b.still ≡ true → AreStill old b.table
  pub ran : b.ran ≡ ran_of old b.table
  pub ticked : now ≡ before + ran_total old b.table

-- Over spoken records it is the fresh run, which leaves this world, and spoken records in which each answer fits its call.
pub record IsRun (first : KeyValue → Says) (request : Request) (entries : Entries) (old : List Record) (world : World) (b : Built) : Type 0 where
  pub ends : AreSpoken first old → (left : ℕ) × (fresh_run first request entries ≡ Done world b.status left b.table)
  pub spoken : AreSpoken first old → AreSpoken first b.table
  pub sound : AreSpoken first old → AllByRecursion IsSound b.table

-- where the bytes of files are told, it is so of what it began with and of the world that it left, both in full
abbrev pub IsRunInFull : (KeyValue → Says) → Request → Option Told → Entries → List Record → World → Built → Type 0
IsRunInFull first request told entries old world b = IfSome told (λ t. IsRun first request (full_entries t entries) old (full_world t world) b)

-- why it stopped: a record that isn't what its command says; or the fresh run is spent, over spoken records
abbrev pub StopsRun : (KeyValue → Says) → Request → Option Told → Entries → List Record → BuildErr → Type 0
StopsRun first request told entries old (stop.Forged rec step) = IsForged first old rec step
StopsRun first request told entries old stop.Spent = AreSpoken first old × IfSome told (λ t. fresh_run first request (full_entries t entries) ≡ Spent)
StopsRun first request told entries old stop.ReadFault = Unit {0}
StopsRun first request told entries old stop.NoMemory = Unit {0}
StopsRun first request told entries old other = ⊥

-- What a run made over old records tells, and the world that it left.
abbrev pub Runs : (KeyValue → Says) → Request → Option Told → Entries → List Record → ℕ → ℕ → World → Result Built BuildErr → Type 0
Runs first request told entries old before now world (Ok b) = IsReplay old before now b × IsRunInFull first request told entries old world b
Runs first request told entries old before now world (Err e) = StopsRun first request told entries old e

-- A machine was started for each command that ran, no more of them than turns, beside the script; where the run stops, for each
-- that ran so far, and for each record that was looked at.
abbrev pub StartsRun : {T : Type 0} → (T → ℕ) → Request → List Record → ℕ → ℕ → Result T BuildErr → Type 0
StartsRun ran request old before now (Ok it) = (now ≡ started (ran it) before) × (ran it ≤ turns request + 1)
StartsRun ran request old before now (Err (stop.Forged rec step)) = StartsUpTo (turns request) (rec + 1) before now
StartsRun ran request old before now (Err stop.Spent) = StartsRan (turns request) (length old) before now
StartsRun ran request old before now (Err stop.ReadFault) = StartsUpTo (turns request) (length old) before now
StartsRun ran request old before now (Err stop.NoMemory) = StartsUpTo (turns request) (length old) before now
StartsRun ran request old before now (Err other) = ⊥
