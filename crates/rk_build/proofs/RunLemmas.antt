-- The run that was made is the fresh run.
use Rattle.std.proofs.Common.{◌≡◌, ◌+◌, ◌-◌, ◌≤◌, ℕ, Bool, true, List, length, Option, Some, None, IfSome, Err, option_map, refl, sym, ap, subst, ◌∙◌, arith}
use Rattle.std.specs.List.{AllByRecursion}
use Rattle.std.specs.Option.{IsSomeAnd}
use Rattle.rk_base.specs.Paid.{Paid}
use Rattle.rk_calls.specs.Keys.{KeyValue}
use Rattle.rk_calls.specs.Refs.{top_refs}
use Rattle.rk_calls.specs.Talk.{Says}
use Rattle.rk_tree.specs.Entries.{Entries}
use Rattle.rk_tree.specs.Full.{Told, full_entries}
use Rattle.rk_kernel.specs.Fetching.{Failed}
use Rattle.rk_kernel.specs.Full.{full_world}
use Rattle.rk_kernel.specs.World.{World, fresh_world}
use Rattle.rk_kernel.specs.declared.answer_err.AnswerErr.{AnswerErr}
use Rattle.rk_kernel.specs.declared.answer_err.AnswerErr.TheVariants.{ReadFault, NoMemory}
use Rattle.rk_kernel.specs.Do.{answered}
use Rattle.rk_traces.specs.Purse.{left}
use Rattle.rk_traces.specs.Run.{Outcome, Done, Spent, environment, fresh}
use Rattle.rk_traces.specs.Spoken.{AreSpoken}
use Rattle.tr_record.specs.declared.records.Record.{Record}
use Rattle.rk_traces.specs.Own.{total}
use Rattle.rk_replay.proofs.Starting.{ran_count-most}
use Rattle.rk_replay.proofs.Totalling.{ran_count-length}
use Rattle.rk_replay.specs.Ran.{ran_of}
use Rattle.rk_replay.specs.Starts.{StartsRan, StartsStopped, StartsUpTo}
use Rattle.rk_replay.specs.declared.ran.Ran.{Ran}
use Rattle.rk_replay.specs.Stops.{StaysAt, Stops}
use Rattle.rk_replay.specs.declared.build.Built.{Built}
use Rattle.rk_replay.specs.declared.stop.ReplayErr.{ReplayErr}
use Rattle.rk_replay.specs.declared.stop.ReplayErr.TheVariants as stop
use Rattle.rk_replay.specs.Script.{script_key}
use Rattle.rk_request.specs.Asked.{turns}
use Rattle.rk_request.specs.declared.requests.Request.{Request}
use Rattle.tr_codec.specs.Sound.{IsSound}
use Rattle.rk_build.specs.Run.{IsRunInFull, StartsRun, StopsRun, fresh_run}
use Rattle.rk_build.specs.Stages.{ReadsCounted, stop_of_answer}
use Rattle.rk_build.specs.Texts.{IsNoFault}
use Rattle.rk_build.specs.declared.stop.BuildErr.TheVariants as build
use Rattle.rk_build.proofs.FullLemmas.{fresh-full}

pub fresh_run-is : (first : KeyValue → Says) (request : Request) (entries : Entries) (key : KeyValue) (budget : Paid) (world : World) (o : Outcome World) → budget.limit ≡ turns request → budget.used ≡ 0 → key ≡ script_key → world ≡ fresh_world entries → fresh (environment first answered) (left budget) key top_refs world ≡ o → fresh_run first request entries ≡ o
unfolding fresh_run
fresh_run-is first request entries key budget world o limit used is_key is_world run =
    let turned : left budget ≡ turns request = omega arith in
    sym (ap (λ (n : ℕ). fresh (environment first answered) n script_key top_refs (fresh_world entries)) turned)
    ∙ sym (ap (λ (w : World). fresh (environment first answered) (left budget) script_key top_refs w) is_world)
    ∙ sym (ap (λ (k : KeyValue). fresh (environment first answered) (left budget) k top_refs world) is_key)
    ∙ run

-- where the build's budget was spent
pub spent-is : {S : Type 0} (first : KeyValue → Says) (old : List Record) (spent : Type 0) (stopped : S → Type 0) (e : ReplayErr S) → e ≡ stop.Spent → Stops first old spent stopped e → AreSpoken first old × spent
spent-is first old spent stopped e is stops = subst (Stops first old spent stopped) is stops

-- What a world means whose files are fetched: the world in full, where their bytes are told.
abbrev pub meant : Option Told → World → Option World
meant o world = option_map (λ told. full_world told world) o

-- where it ended
pub run-in-full : (first : KeyValue → Says) (request : Request) (o now : Option Told) (entries : Entries) (old : List Record) (began left_world : World) (key : KeyValue) (budget later : Paid) (b : Built) → now ≡ o → budget.limit ≡ turns request → budget.used ≡ 0 → key ≡ script_key → began ≡ fresh_world entries
    → IfSome (meant o began) (λ before. IsSomeAnd (meant now left_world) (λ it. AreSpoken first old → fresh (environment first answered) (left budget) key top_refs before ≡ Done it b.status (left later) b.table))
    → IfSome (meant o began) (λ _. AreSpoken first old → AreSpoken first b.table) → (AreSpoken first b.table → AllByRecursion IsSound b.table) → IsRunInFull first request o entries old left_world b
run-in-full first request None now entries old began left_world key budget later b same limit used is_key is_world done spoken sounds = tt
run-in-full first request (Some told) now entries old began left_world key budget later b same limit used is_key is_world done spoken sounds =
    let ends = subst (λ (o : Option Told). IsSomeAnd (meant o left_world) (λ it. AreSpoken first old → fresh (environment first answered) (left budget) key top_refs (full_world told began) ≡ Done it b.status (left later) b.table)) same done in
    record {
      ends = λ s. (left later, fresh_run-is first request (full_entries told entries) key budget (full_world told began) _ limit used is_key (ap (full_world told) is_world ∙ fresh-full told entries) (ends s));
      spoken = spoken;
      sound = λ s. sounds (spoken s);
    }

-- where its budget was spent
pub spent-in-full : {S : Type 0} (first : KeyValue → Says) (request : Request) (o : Option Told) (entries : Entries) (old : List Record) (began : World) (key : KeyValue) (budget : Paid) (stopped : S → Type 0) (e : ReplayErr S) → budget.limit ≡ turns request → budget.used ≡ 0 → key ≡ script_key → began ≡ fresh_world entries → e ≡ stop.Spent
    → Stops first old (IfSome (meant o began) (λ before. fresh (environment first answered) (left budget) key top_refs before ≡ Spent)) stopped e → StopsRun first request o entries old build.Spent
spent-in-full first request o entries old began key budget stopped e limit used is_key is_world is stops = run_spent o (spent-is first old _ stopped e is stops) where
  run_spent : (o : Option Told) → AreSpoken first old × IfSome (meant o began) (λ before. fresh (environment first answered) (left budget) key top_refs before ≡ Spent) → StopsRun first request o entries old build.Spent
  run_spent None it = (it.0, tt)
  run_spent (Some told) it = (it.0, fresh_run-is first request (full_entries told entries) key budget (full_world told began) Spent limit used is_key (ap (full_world told) is_world ∙ fresh-full told entries) it.1)

-- where the world stopped it
pub stopped-is : {S : Type 0} (first : KeyValue → Says) (old : List Record) (spent : Type 0) (stopped : S → Type 0) (e : ReplayErr S) (reason : S) → e ≡ stop.Stopped reason → Stops first old spent stopped e → stopped reason
stopped-is first old spent stopped e reason is stops = subst (Stops first old spent stopped) is stops

pub stopped-runs : (first : KeyValue → Says) (request : Request) (o : Option Told) (entries : Entries) (old : List Record) (reason : AnswerErr) → StopsRun first request o entries old (stop_of_answer reason)
stopped-runs first request o entries old ReadFault = tt
stopped-runs first request o entries old NoMemory = tt

pub stopped-reads : (T : Type 0) (before now : ℕ) (was : Bool) (reason : AnswerErr) → Failed before now was reason → ReadsCounted {T = T} before now (Err (stop_of_answer reason))
stopped-reads T before now was ReadFault failed = failed.cause.1
stopped-reads T before now was NoMemory failed = failed.cause

pub stopped-steady : (T : Type 0) (before now : ℕ) (was : Bool) (reason : AnswerErr) → Failed before now was reason → was ≡ true → IsNoFault {T = T} (Err (stop_of_answer reason))
stopped-steady T before now was ReadFault failed is = failed.steady is
stopped-steady T before now was NoMemory failed is = tt

pub stopped-starts : {T : Type 0} (ran : T → ℕ) (request : Request) (old : List Record) (before now : ℕ) (reason : AnswerErr) → StartsUpTo (turns request) (length old) before now → StartsRun ran request old before now (Err (stop_of_answer reason))
stopped-starts ran request old before now ReadFault starts = starts
stopped-starts ran request old before now NoMemory starts = starts

-- unless the world stopped it, no more reads failed

pub counted-at : {S : Type 0} (stays : Type 0) (e : ReplayErr S) → e ≡ stop.Spent → StaysAt stays e → stays
counted-at stays e is s = subst (StaysAt stays) is s

pub counted-forged : {S : Type 0} (stays : Type 0) (e : ReplayErr S) (rec step : ℕ) → e ≡ stop.Forged rec step → StaysAt stays e → stays
counted-forged stays e rec step is s = subst (StaysAt stays) is s

-- no more commands ran than turns were paid, beside the script
pub few-ran : (request : Request) (old table : List Record) (ran : List Ran) (budget later : Paid) → budget.limit ≡ turns request → budget.used ≡ 0 → later.used ≡ budget.used + total table → later.limit ≡ budget.limit → later.used ≤ later.limit → length table ≤ total table + 1 → ran ≡ ran_of old table → length ran ≤ turns request + 1
few-ran request old table ran budget later limit used paid same within launched is =
    let most = ran_count-most old table in
    let count = ap length is ∙ ran_count-length old table in
    omega arith

-- where it stopped
pub paid-within : (request : Request) (budget later : Paid) → budget.limit ≡ turns request → later.limit ≡ budget.limit → later.used ≤ later.limit → later.used - budget.used ≤ turns request
paid-within request budget later limit same within = omega arith

ran-within : (paid most looked before now : ℕ) → paid ≤ most → StartsRan paid looked before now → StartsRan most looked before now
ran-within paid most looked before now h s = let few : s.ran ≤ paid + 1 = s.few in record { ran = s.ran; few = omega arith; now_is = s.now_is }

-- where nothing was started yet
pub none-started : (paid most count : ℕ) → StartsUpTo paid most count count
none-started paid most count = record { looked = 0; within = omega arith; starts = record { ran = 0; few = omega arith; now_is = refl } }

upto-within : (paid most up before now : ℕ) → paid ≤ most → StartsUpTo paid up before now → StartsUpTo most up before now
upto-within paid most up before now h s = record { looked = s.looked; within = s.within; starts = ran-within paid most s.looked before now h s.starts }

pub starts-spent : {S : Type 0} (old : List Record) (paid most before now : ℕ) (e : ReplayErr S) → paid ≤ most → e ≡ stop.Spent → StartsStopped old paid before now e → StartsRan most (length old) before now
starts-spent old paid most before now e h is s = ran-within paid most (length old) before now h (subst (StartsStopped old paid before now) is s)

pub starts-forged : {S : Type 0} (old : List Record) (paid most before now rec step : ℕ) (e : ReplayErr S) → paid ≤ most → e ≡ stop.Forged rec step → StartsStopped old paid before now e → StartsUpTo most (rec + 1) before now
starts-forged old paid most before now rec step e h is s = upto-within paid most (rec + 1) before now h (subst (StartsStopped old paid before now) is s)

pub starts-stopped : {S : Type 0} (old : List Record) (paid most before now : ℕ) (e : ReplayErr S) (reason : S) → paid ≤ most → e ≡ stop.Stopped reason → StartsStopped old paid before now e → StartsUpTo most (length old) before now
starts-stopped old paid most before now e reason h is s = upto-within paid most (length old) before now h (subst (StartsStopped old paid before now) is s)

-- there was no memory yet
pub starts-none : (most up before now : ℕ) → now ≡ before → StartsUpTo most up before now
starts-none most up before now e = record { looked = 0; within = omega arith; starts = record { ran = 0; few = omega arith; now_is = e } }
