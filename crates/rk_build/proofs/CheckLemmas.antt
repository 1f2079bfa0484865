-- What the check of the records is no cause of.
use Rattle.std.proofs.Common.{◌≡◌, ◌∙◌, ◌+◌, ◌≤◌, ℕ, Bool, true, false, List, length, Option, Some, None, Result, Err, Ok, refl, ap, sym, subst, true≢false, arith, inl, inr}
use Rattle.std.specs.Prelude.{if◌then◌else◌}
use Rattle.rk_calls.specs.Keys.{KeyValue}
use Rattle.rk_calls.specs.Talk.{Says}
use Rattle.rk_traces.specs.CheckLaws.{started-adds}
use Rattle.rk_traces.specs.Started.{started, StartsSome}
use Rattle.rk_folder.specs.Told.{Held}
use Rattle.tr_record.specs.Generations.{records}
use Rattle.tr_record.specs.declared.records.Record.{Record}
use Rattle.rk_request.specs.Asked.{checks, turns}
use Rattle.rk_request.specs.declared.requests.Request.{Request}
use Rattle.rk_tree.specs.Entries.{Entries}
use Rattle.rk_tree.specs.Full.{Told}
use Rattle.rk_build.specs.Checks.{ChecksSo, ChecksWhole, StartsChecked, checked_count}
use Rattle.rk_replay.specs.Starts.{StartsRan, StartsUpTo}
use Rattle.rk_build.specs.Run.{StartsRun, StopsRun}
use Rattle.rk_build.specs.Outcomes.{KeepsMany, StartsBoth, StartsCut}
use Rattle.rk_build.specs.Stages.{FindsSo, ReadsCounted, StartsSo, WorksSo, found_entries}
use Rattle.rk_build.specs.Texts.{IsNoFault}
use Rattle.rk_build.specs.declared.found.Found.{Found}
use Rattle.rk_build.specs.declared.work.Prepared.{Prepared}
use Rattle.rk_build.specs.declared.stop.Refusal.TheVariants as refusal
use Rattle.rk_build.specs.declared.stop.BuildErr.{BuildErr}
use Rattle.rk_build.specs.declared.stop.BuildErr.TheVariants as stop
use Rattle.rk_build.proofs.PrepareLemmas.{checks-many, unasked}
use Rattle.rk_build.proofs.SettledLemmas.{forged-clash}

-- it reads nothing
pub check-reads : (T : Type 0) (first : KeyValue → Says) (check : Bool) (old : List Record) (before now : ℕ) (e : BuildErr) → ChecksSo first check old (Err e) → now ≡ before → ReadsCounted {T = T} before now (Err e)
check-reads T first check old before now (stop.Refused refusal) told same = absurd told
check-reads T first check old before now (stop.Forged rec step) told same = same
check-reads T first check old before now stop.Spent told same = absurd told
check-reads T first check old before now stop.ReadFault told same = absurd told
check-reads T first check old before now stop.WriteFault told same = absurd told
check-reads T first check old before now stop.NoMemory told same = same

-- and is no fault
pub check-no-fault : (T : Type 0) (first : KeyValue → Says) (check : Bool) (old : List Record) (e : BuildErr) → ChecksSo first check old (Err e) → IsNoFault {T = T} (Err e)
check-no-fault T first check old (stop.Refused refusal) told = absurd told
check-no-fault T first check old (stop.Forged rec step) told = tt
check-no-fault T first check old stop.Spent told = absurd told
check-no-fault T first check old stop.ReadFault told = absurd told
check-no-fault T first check old stop.WriteFault told = absurd told
check-no-fault T first check old stop.NoMemory told = tt

-- so many records are kept
pub keeps-many : (request : Request) (told : Option Held) (f : Found) → FindsSo request told (Ok f) → KeepsMany request told (length (records f.old))
keeps-many request None f found = tt
keeps-many request (Some held) f found = record { plain = found.0; rows = f.attrs; old = f.old; kept = found.2; so = refl }

pub check-starts : {T : Type 0} (ran : T → ℕ) (first : KeyValue → Says) (request : Request) (told : Option Held) (f : Found) (before now : ℕ) (e : BuildErr) → FindsSo request told (Ok f) → ChecksSo first (checks request) (records f.old) (Err e) → StartsChecked (checks request) (records f.old) before now (Err e) → StartsSo ran first request told before now (Err e)
check-starts ran first request told f before now (stop.Refused refusal) found so starts = absurd so
check-starts ran first request told f before now (stop.Forged rec step) found so starts = (λ all. starts, λ none. absurd (true≢false (sym so.0 ∙ none)))
check-starts ran first request told f before now stop.Spent found so starts = absurd so
check-starts ran first request told f before now stop.ReadFault found so starts = absurd so
check-starts ran first request told f before now stop.WriteFault found so starts = absurd so
check-starts ran first request told f before now stop.NoMemory found so starts =
    let few : starts.many ≤ checked_count (checks request) (records f.old) = starts.few in
    inr (length (records f.old), (keeps-many request told f found, record { looked = starts.many; within = omega arith; starts = record { ran = 0; few = omega arith; now_is = starts.now_is } }))

-- where the folder is refused, or couldn't be read, none is started
pub find-starts : {T : Type 0} (ran : T → ℕ) (first : KeyValue → Says) (request : Request) (told : Option Held) (n : ℕ) (e : BuildErr) → FindsSo request told (Err e) → StartsSo ran first request told n n (Err e)
find-starts ran first request told n (stop.Refused (refusal.Special path)) so = refl
find-starts ran first request told n (stop.Refused (refusal.Damaged file damage)) so = refl
find-starts ran first request told n (stop.Forged rec step) so = absurd so
find-starts ran first request told n stop.Spent so = absurd so
find-starts ran first request told n stop.ReadFault so = inl refl
find-starts ran first request told n stop.WriteFault so = absurd so
find-starts ran first request told n stop.NoMemory so = inl refl

-- those of a check, and then of a run
started-swap : (b c n : ℕ) → started b (started c n) ≡ started c (started b n)
started-swap b c n =
    let e : b + c ≡ c + b = omega arith in
    sym (started-adds b c n) ∙ ap (λ k. started k n) e ∙ started-adds c b n

started-last : (a b c n : ℕ) → started a (started b (started c n)) ≡ started (a + c) (started b n)
started-last a b c n = ap (started a) (started-swap b c n) ∙ sym (started-adds a c (started b n))

-- where every record was checked, the run finds none that is forged
-- where it stopped, or there was no memory
starts-cut : (request : Request) (told : Option Held) (f : Found) (before mid now : ℕ) → FindsSo request told (Ok f) → mid ≡ started (checked_count (checks request) (records f.old)) before → StartsUpTo (turns request) (length (records f.old)) mid now → StartsCut request told before now
starts-cut request told f before mid now found was starts =
    let within : starts.looked ≤ length (records f.old) = starts.within in
    inr (
      length (records f.old),
      (
        keeps-many request told f found,
        record {
          looked = starts.looked + checked_count (checks request) (records f.old);
          within = omega arith;
          starts = record {
            ran = starts.starts.ran;
            few = starts.starts.few;
            now_is = starts.starts.now_is ∙ ap (λ n. started starts.looked (started starts.starts.ran n)) was ∙ started-last starts.looked starts.starts.ran (checked_count (checks request) (records f.old)) before;
          };
        },
      ),
    )

run-starts : {T : Type 0} (ran : T → ℕ) (first : KeyValue → Says) (request : Request) (told : Option Held) (o : Option Told) (f : Found) (entries : Entries) (before mid now : ℕ) (e : BuildErr) → FindsSo request told (Ok f) → StopsRun first request o entries (records f.old) e → ChecksWhole first (checks request) (records f.old) → mid ≡ started (checked_count (checks request) (records f.old)) before → StartsRun ran request (records f.old) mid now (Err e) → StartsSo ran first request told before now (Err e)
run-starts ran first request told o f entries before mid now (stop.Refused refusal) found stops whole was starts = absurd stops
run-starts ran first request told o f entries before mid now (stop.Forged rec step) found stops whole was starts = (
  λ all. absurd (forged-clash first (records f.old) rec step (whole all) stops),
  λ none. subst (λ n. StartsUpTo (turns request) (rec + 1) n now) (was ∙ ap (λ n. started n before) (unasked (checks request) (records f.old) none)) starts,
)
run-starts ran first request told o f entries before mid now stop.Spent found stops whole was starts =
    (checked_count (checks request) (records f.old), (checks-many request told f found, (length (records f.old), (keeps-many request told f found, subst (λ n. StartsRan (turns request) (length (records f.old)) n now) was starts))))
run-starts ran first request told o f entries before mid now stop.ReadFault found stops whole was starts = starts-cut request told f before mid now found was starts
run-starts ran first request told o f entries before mid now stop.WriteFault found stops whole was starts = absurd stops
run-starts ran first request told o f entries before mid now stop.NoMemory found stops whole was starts = starts-cut request told f before mid now found was starts

-- a machine for each record that is checked, and then for each command that ran
pub starts-both : (request : Request) (told : Option Held) (f : Found) (before mid now ran : ℕ) → FindsSo request told (Ok f) → mid ≡ started (checked_count (checks request) (records f.old)) before → now ≡ started ran mid → StartsBoth request told before now ran
starts-both request told f before mid now ran found checked runs =
    (checked_count (checks request) (records f.old), (checks-many request told f found, runs ∙ ap (started ran) checked))

pub work-starts : (first : KeyValue → Says) (request : Request) (told : Option Held) (o : Option Told) (f : Found) (live late before mid now : ℕ) (result : Result Prepared BuildErr) → FindsSo request told (Ok f) → WorksSo first request o f live late result → ChecksWhole first (checks request) (records f.old) → mid ≡ started (checked_count (checks request) (records f.old)) before → StartsRun (λ (p : Prepared). length p.ended.ran) request (records f.old) mid now result → StartsSo (λ (p : Prepared). length p.ended.ran) first request told before now result
work-starts first request told o f live late before mid now (Ok p) found works whole was starts = starts-both request told f before mid now _ found was starts.0
work-starts first request told o f live late before mid now (Err e) found works whole was starts = run-starts {T = Prepared} (λ (p : Prepared). length p.ended.ran) first request told o f (found_entries f) before mid now e found works whole was starts

-- a run that ended, and then no memory
cut-after : (request : Request) (told : Option Held) (before now ran many kept : ℕ) → KeepsMany request told kept → many ≤ kept + (if checks request then kept else 0) → now ≡ started ran (started many before) → ran ≤ turns request + 1 → StartsCut request told before now
cut-after request told before now ran many kept keeps within is few =
    inr (kept, (keeps, record { looked = many; within = within; starts = record { ran = ran; few = few; now_is = is ∙ started-swap ran many before } }))

pub both-cut : (request : Request) (told : Option Held) (before now ran : ℕ) → StartsBoth request told before now ran → ran ≤ turns request + 1 → StartsCut request told before now
both-cut request None before now ran both few = cut-after request None before now ran both.0 both.0 tt (omega arith) both.1.1 few
both-cut request (Some held) before now ran both few =
    let checked = both.1.0.1 in
    let is : both.0 ≡ checked_count (checks request) (records checked.old) = checked.so in
    cut-after request (Some held) before now ran both.0 (length (records checked.old)) (record { plain = checked.plain; rows = checked.rows; old = checked.old; kept = checked.kept; so = refl }) (omega arith) both.1.1 few

-- the check of all had no memory
pub checked-some : (check : Bool) (old : List Record) (before now : ℕ) → check ≡ true → StartsSome (length old) before now → StartsSome (checked_count check old) before now
checked-some true old before now is some = some
checked-some false old before now is some = absurd (true≢false (sym is))
