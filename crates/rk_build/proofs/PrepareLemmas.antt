-- What a build has come to before anything is put out.
use Rattle.std.proofs.Common.{◌≡◌, ◌<◌, Bool, true, false, true≢false, IsSome, is_some, refl, ℕ, ◌+◌, ◌++◌, ◌≤◌, List, length, Option, Some, None, option_map, Result, Ok, Err, sym, ap, subst, ◌∙◌, arith}
use Rattle.std.specs.Prelude.{IfOk, OnOk}
use Rattle.rk_calls.specs.Keys.{KeyValue}
use Rattle.rk_calls.specs.Talk.{Says}
use Rattle.rk_kernel.specs.World.{World}
use Rattle.rk_kernel.specs.Full.{full_world}
use Rattle.rk_tree.specs.Entries.{Entries}
use Rattle.rk_tree.specs.Full.{Told, EntriesFrom, full_entries}
use Rattle.rk_folder.specs.Told.{Held, longest_file}
use Rattle.rk_folder.specs.Whole.{TellsWhole}
use Rattle.rk_folder.specs.Attributes.{with_rows}
use Rattle.rk_folder.specs.Fetching.{MakesReads, no-reads}
use Rattle.rk_folder.specs.Import.{snapshot_of, told_of}
use Rattle.rk_folder.specs.Looks.{LooksInOrder, looks}
use Rattle.rk_folder.specs.Schedule.{Schedule}
use Rattle.rk_install.specs.Install.{carried}
use Rattle.rk_changes.specs.Holdings.{HasPlaces, IsAfter, IsBuilt, MayBecome, full_holding}
use Rattle.rk_changes.specs.Imported.{holding_of, listed_holding}
use Rattle.rk_changes.specs.Planned.{IsPlan}
use Rattle.rk_changes.specs.declared.holding.Holding.{Holding}
use Rattle.rk_changes.proofs.ImportedLemmas.{has_places-imported, may_become-imported}
use Rattle.rk_traces.specs.Following.{never-wrong}
use Rattle.tr_record.specs.Rec.{rec_at}
use Rattle.tr_record.specs.Generations.{records}
use Rattle.tr_record.specs.declared.records.Record.{Record}
use Rattle.rk_request.specs.Asked.{checks, is_fresh, turns}
use Rattle.rk_request.specs.declared.requests.Request.{Request}
use Rattle.rk_base.specs.Text.{Text}
use Rattle.rk_build.specs.Checks.{ChecksSo, ChecksWhole, IsForged, checked_count}
use Rattle.rk_build.specs.Explained.{explanation}
use Rattle.rk_build.specs.Outcomes.{ChecksMany}
use Rattle.rk_build.specs.Calls.{PreparesCalls, ReadsAlone}
use Rattle.rk_build.specs.Run.{fresh_run, IsRun, StartsRun, StopsRun}
use Rattle.rk_build.specs.Stages.{FindsSo, IsWork, PreparesSo, ReadsCounted, Steadily, WorksSo, found_entries}
use Rattle.rk_build.specs.Fresh.{AreInMemory, AreReadable, IsInMemory, IsReadable, held_after}
use Rattle.rk_build.specs.Kept.{decoded, state_in}
use Rattle.rk_traces.specs.Spoken.{AreSpoken}
use Rattle.tr_kept.specs.KeptSpelling.{FitsKept}
use Rattle.rk_build.specs.declared.found.Found.{Found}
use Rattle.rk_build.specs.declared.work.Prepared.{Prepared}
use Rattle.rk_build.specs.declared.stop.BuildErr.{BuildErr}
use Rattle.rk_build.specs.declared.stop.BuildErr.TheVariants as stop
use Rattle.rk_build.proofs.FullLemmas.{err-full, held_after-full, listed_holding-from, listed_holding-full, listed_rows-full, out-full, whole-left}
use Rattle.rk_build.proofs.InstalledLemmas.{plan-allows, plan-leads}
use Rattle.rk_build.proofs.KeptLemmas.{finds-next, next-in-full}
use Rattle.rk_build.proofs.PushedLemmas.{pushed-fits}

-- the entries that were found, in full
entries-same : (request : Request) (held : Held) (found : Found) → found.holding ≡ listed_holding (is_fresh request) held → full_entries (told_of held) (found_entries found) ≡ with_rows (snapshot_of held) found.attrs
entries-same request held found same = ap (λ (h : Holding). full_entries (told_of held) (with_rows h.entries found.attrs)) same ∙ listed_rows-full held found.attrs

pub unasked : (check : Bool) (old : List Record) → check ≡ false → checked_count check old ≡ 0
unasked true old is = absurd (true≢false is)
unasked false old is = refl

-- nothing was found to build on
pub find-stops : (first : KeyValue → Says) (request : Request) (told : Option Held) (before now : ℕ) (e : BuildErr) → FindsSo request told (Err e) → now ≡ before → PreparesSo first request told before now (Err e)
find-stops first request told before now (stop.Refused refusal) found same = (found, same)
find-stops first request told before now (stop.Forged rec step) found same = absurd found
find-stops first request told before now stop.Spent found same = absurd found
find-stops first request told before now stop.ReadFault found same = omega arith
find-stops first request told before now stop.WriteFault found same = absurd found
find-stops first request told before now stop.NoMemory found same = omega arith

-- where each record was found to be spoken, none is told as forged
unchecked : {P : Type 0} (first : KeyValue → Says) (request : Request) (old : List Record) (rec step : ℕ) → IsForged first old rec step → ChecksWhole first (checks request) old → checks request ≡ true → P
unchecked first request old rec step forged whole check = absurd (never-wrong first (rec_at rec old) step (whole check rec forged.0) forged.1)

-- a record is forged
pub check-stops : (first : KeyValue → Says) (request : Request) (told : Option Held) (f : Found) (before now : ℕ) (e : BuildErr) → FindsSo request told (Ok f) → ChecksSo first (checks request) (records f.old) (Err e) → now ≡ before → PreparesSo first request told before now (Err e)
check-stops first request told f before now (stop.Refused refusal) found told_so same = absurd told_so
check-stops first request None f before now (stop.Forged rec step) found told_so same = (tt, omega arith, λ check. same)
check-stops first request (Some held) f before now (stop.Forged rec step) found told_so same =
    (record { plain = found.0; rows = f.attrs; old = f.old; kept = found.2; so = record { wrong = told_so.1; earliest = λ check. told_so.2 } }, omega arith, λ check. same)
check-stops first request told f before now stop.Spent found told_so same = absurd told_so
check-stops first request told f before now stop.ReadFault found told_so same = absurd told_so
check-stops first request told f before now stop.WriteFault found told_so same = absurd told_so
check-stops first request told f before now stop.NoMemory found told_so same = omega arith

-- so many records were checked
pub checks-many : (request : Request) (told : Option Held) (f : Found) → FindsSo request told (Ok f) → ChecksMany request told (checked_count (checks request) (records f.old))
checks-many request None f found = (unasked (checks request) (records f.old), tt)
checks-many request (Some held) f found = (unasked (checks request) (records f.old), record { plain = found.0; rows = f.attrs; old = f.old; kept = found.2; so = refl })

-- the run stopped, or the plan
pub work-stops : (first : KeyValue → Says) (request : Request) (told : Option Held) (f : Found) (before now : ℕ) (e : BuildErr) → FindsSo request told (Ok f) → StopsRun first request (option_map told_of told) (found_entries f) (records f.old) e → ChecksWhole first (checks request) (records f.old) → now ≤ before + turns request → PreparesSo first request told before now (Err e)
work-stops first request told f before now (stop.Refused refusal) found stops whole most = absurd stops
work-stops first request None f before now (stop.Forged rec step) found stops whole most = (tt, most, unchecked first request (records f.old) rec step stops whole)
work-stops first request (Some held) f before now (stop.Forged rec step) found stops whole most =
    (record { plain = found.0; rows = f.attrs; old = f.old; kept = found.2; so = record { wrong = stops; earliest = λ check i h. whole check i (let here : rec < length (records f.old) = stops.0 in omega arith) } }, most, unchecked first request (records f.old) rec step stops whole)
work-stops first request None f before now stop.Spent found stops whole most = (tt, most)
work-stops first request (Some held) f before now stop.Spent found stops whole most =
    (record { plain = found.0; rows = f.attrs; old = f.old; kept = found.2; so = (stops.0, ap (fresh_run first request) (sym (entries-same request held f found.1)) ∙ stops.1) }, most)
work-stops first request told f before now stop.ReadFault found stops whole most = most
work-stops first request told f before now stop.WriteFault found stops whole most = absurd stops
work-stops first request told f before now stop.NoMemory found stops whole most = most

in-memory : (it : Option Text) → IsReadable it → IsInMemory it
in-memory None small = tt
in-memory (Some bytes) small = let few : length bytes ≤ longest_file = small in omega arith

both-in-memory : (world : World) (kept : List (List Record)) → AreReadable world kept → AreInMemory world kept
both-in-memory world kept small = (in-memory (held_after world kept).state.attrs small.0, in-memory (held_after world kept).state.db small.1)

-- there is a plan
pub never-none : {X : Type 0} (found : Option X) → IsSome found → found ≡ None → ⊥
never-none {X = X} found some none = true≢false (sym some ∙ ap (λ (o : Option X). is_some o) none)

-- all went well
pub is_prepared : (first : KeyValue → Says) (request : Request) (told : Option Held) (found : Found) (before now : ℕ) (p : Prepared) → TellsWhole told → FindsSo request told (Ok found) → ChecksWhole first (checks request) (records found.old)
    → IsWork first request (option_map told_of told) found before now p → now ≤ before + turns request → PreparesSo first request told before now (Ok p)
is_prepared first request None found before now p whole is_found spoken_all work most = (tt, most)
is_prepared first request (Some held) found before now p whole is_found spoken_all work most =
    let t : Told = told_of held in
    let left : World = p.world in
    let planned = work.planned in
    let kept : List (List Record) = planned.kept in
    let world : World = full_world t left in
    let fresh : Bool = is_fresh request in
    let after_is : full_holding t (held_after left kept) ≡ held_after world kept = sym (held_after-full t left kept) in
    let before_is : full_holding t found.holding ≡ holding_of fresh held = ap (full_holding t) is_found.1 ∙ listed_holding-full fresh held in
    let built : IsBuilt (held_after world kept) = record { entries = whole-left t left planned.whole; rkr = refl; db = refl } in
    let plan : IsPlan (holding_of fresh held) (held_after world kept) p.plan = subst (λ (h : Holding). IsPlan h (held_after world kept) p.plan) before_is (subst (λ (h : Holding). IsPlan (full_holding t found.holding) h p.plan) after_is planned.plan) in
    let becomes : MayBecome held (holding_of fresh held) (held_after world kept) = may_become-imported held whole is_found.0 fresh (held_after world kept) built in
    let places : HasPlaces held (holding_of fresh held) = has_places-imported held whole is_found.0 fresh in
    let goes : IsAfter held (carried p.plan held) (held_after world kept) = plan-leads held (holding_of fresh held) (held_after world kept) becomes places p.plan plan in
    let readable : AreReadable world kept = subst (λ (h : Holding). IsReadable h.state.attrs × IsReadable h.state.db) after_is planned.readable in
    let run : IsRun first request (with_rows (snapshot_of held) found.attrs) (records found.old) world work.built = subst (λ (e : Entries). IsRun first request e (records found.old) world work.built) (entries-same request held found is_found.1) work.ran.run in
    let fits : AreSpoken first (records found.old) → FitsKept kept = λ spoken. pushed-fits (decoded fresh (state_in held)).db work.built.table found.old kept is_found.2.1.0 planned.pushed planned.fits (run.sound spoken) in (
      record {
        plain = is_found.0;
        rows = found.attrs;
        old = found.old;
        kept = is_found.2;
        checked = spoken_all;
        built = work.built;
        ended = planned.ended;
        replay = work.ran.replay;
        world = world;
        out = sym (out-full t left);
        run = run;
        text = planned.text ∙ ap (λ (err : Text). err ++ explanation request work.built.ran (length work.built.table)) (sym (err-full t left));
        left = kept;
        pushed = planned.pushed;
        plan = plan;
        allowed = plan-allows held (holding_of fresh held) (held_after world kept) becomes places p.plan plan;
        leads = goes;
        readable = readable;
        fits = fits;
        next = λ spoken. next-in-full t left kept (carried p.plan held) (finds-next held (carried p.plan held) world kept whole is_found.0 goes built.entries (fits spoken) (both-in-memory world kept readable));
      },
      most,
    )

-- What was asked of the folder.

reads-alone : (request : Request) (reach : ℕ) (told : Option Held) (before on now : Option Schedule) → LooksInOrder told (looks (is_fresh request) reach) before on → MakesReads told on now → ReadsAlone request reach told before now
reads-alone request reach None before on now looked read = tt
reads-alone request reach (Some held) before on now looked read = (on, looked, read)

-- no file was read
pub looked-alone : (request : Request) (reach : ℕ) (told : Option Held) (before now : Option Schedule) → LooksInOrder told (looks (is_fresh request) reach) before now → ReadsAlone request reach told before now
looked-alone request reach told before now looked = reads-alone request reach told before now now looked (no-reads told now)

-- before anything is run
pub looks-calls : (T : Type 0) (request : Request) (reach : ℕ) (told : Option Held) (before now : Option Schedule) (e : BuildErr) → LooksInOrder told (looks (is_fresh request) reach) before now → PreparesCalls {T = T} request reach told before now (Err e)
looks-calls T request reach told before now (stop.Refused refusal) looked = looked
looks-calls T request reach told before now (stop.Forged rec step) looked = looked-alone request reach told before now looked
looks-calls T request reach told before now stop.Spent looked = looked-alone request reach told before now looked
looks-calls T request reach told before now stop.ReadFault looked = looked-alone request reach told before now looked
looks-calls T request reach told before now stop.WriteFault looked = looked-alone request reach told before now looked
looks-calls T request reach told before now stop.NoMemory looked = looked-alone request reach told before now looked

-- and then
pub work-calls : (first : KeyValue → Says) (request : Request) (reach : ℕ) (told : Option Held) (o : Option Told) (f : Found) (live late : ℕ) (before on now : Option Schedule) (result : Result Prepared BuildErr) → WorksSo first request o f live late result → LooksInOrder told (looks (is_fresh request) reach) before on → MakesReads told on now → PreparesCalls request reach told before now result
work-calls first request reach told o f live late before on now (Ok p) works looked read = reads-alone request reach told before on now looked read
work-calls first request reach told o f live late before on now (Err (stop.Refused refusal)) works looked read = absurd works
work-calls first request reach told o f live late before on now (Err (stop.Forged rec step)) works looked read = reads-alone request reach told before on now looked read
work-calls first request reach told o f live late before on now (Err stop.Spent) works looked read = reads-alone request reach told before on now looked read
work-calls first request reach told o f live late before on now (Err stop.ReadFault) works looked read = reads-alone request reach told before on now looked read
work-calls first request reach told o f live late before on now (Err stop.WriteFault) works looked read = absurd works
work-calls first request reach told o f live late before on now (Err stop.NoMemory) works looked read = reads-alone request reach told before on now looked read

-- of a result by its arms
pub prepares : (first : KeyValue → Says) (request : Request) (told : Option Held) (f : Found) (before now : ℕ) (result : Result Prepared BuildErr) → TellsWhole told → FindsSo request told (Ok f) → ChecksWhole first (checks request) (records f.old) → WorksSo first request (option_map told_of told) f before now result → now ≤ before + turns request → PreparesSo first request told before now result
prepares first request told f before now (Ok p) whole found spoken_all works most = is_prepared first request told f before now p whole found spoken_all works most
prepares first request told f before now (Err e) whole found spoken_all works most = work-stops first request told f before now e found works spoken_all most

pub few-started : (request : Request) (old : List Record) (before now : ℕ) (result : Result Prepared BuildErr) → StartsRun (λ (p : Prepared). length p.ended.ran) request old before now result → IfOk result (λ p. length p.ended.ran ≤ turns request + 1)
few-started request old before now (Ok p) starts = starts.1
few-started request old before now (Err e) starts = tt

-- What was found can be read, and what the work leaves of a folder goes on from what was found.

entries-found : (request : Request) (told : Option Held) (f : Found) → FindsSo request told (Ok f) → EntriesFrom (option_map told_of told) f.holding.entries
entries-found request None f found = tt
entries-found request (Some held) f found = listed_holding-from (Some held) f.holding (is_fresh request) found.1

pub readable-found : (request : Request) (told mid : Option Held) (f : Found) → mid ≡ told → FindsSo request told (Ok f) → EntriesFrom (option_map told_of mid) f.holding.entries
readable-found request told mid f same found = subst (λ (t : Option Held). EntriesFrom (option_map told_of t) f.holding.entries) (sym same) (entries-found request told f found)

pub works-told : (first : KeyValue → Says) (request : Request) (told mid : Option Held) (f : Found) (before now : ℕ) (result : Result Prepared BuildErr) → mid ≡ told → WorksSo first request (option_map told_of mid) f before now result → WorksSo first request (option_map told_of told) f before now result
works-told first request told mid f before now result same works = subst (λ (t : Option Held). WorksSo first request (option_map told_of t) f before now result) same works

pub reads-told : (told mid : Option Held) (on now : Option Schedule) → mid ≡ told → MakesReads mid on now → MakesReads told on now
reads-told told mid on now same reads = subst (λ (t : Option Held). MakesReads t on now) same reads

pub reads-counted : (before mid now : ℕ) (result : Result Prepared BuildErr) → mid ≡ before → ReadsCounted mid now result → ReadsCounted before now result
reads-counted before mid now result same counted = subst (λ (n : ℕ). ReadsCounted n now result) same counted

pub steady-still : (was mid now : Bool) (result : Result Prepared BuildErr) → mid ≡ was → Steadily mid now result → Steadily was now result
steady-still was mid now result same steady = subst (λ (b : Bool). Steadily b now result) same steady

pub memory-same : (before mid now : ℕ) (result : Result Prepared BuildErr) → mid ≡ before → OnOk result (now ≡ mid) → OnOk result (now ≡ before)
memory-same before mid now result same is = subst (λ (n : ℕ). OnOk result (now ≡ n)) same is
