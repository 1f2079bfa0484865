-- What a build leaves, wherever it ends.
use Rattle.std.proofs.Common.{◌≡◌, ℕ, ◌+◌, ◌++◌, ◌≤◌, List, [], length, Option, Some, None, IfSome, Err, refl, sym, ap, subst, ◌∙◌, ◌⊎◌, inl, inr, append-nil, option_map, arith}
use Rattle.rk_base.specs.Text.{Text}
use Rattle.rk_calls.specs.Keys.{KeyValue}
use Rattle.rk_calls.specs.Talk.{Says}
use Rattle.rk_folder.specs.Counts.{Rose}
use Rattle.rk_folder.specs.Told.{Held}
use Rattle.rk_folder.specs.Sinks.{with_bytes}
use Rattle.rk_folder.specs.Import.{snapshot_of}
use Rattle.rk_folder.specs.Attributes.{with_rows}
use Rattle.rk_folder.specs.Specials.{first_special}
use Rattle.rk_install.specs.Install.{AllowsPlan, IsMomentOf, StopsPlan, carried}
use Rattle.rk_install.specs.declared.calling.InstallErr.{InstallErr}
use Rattle.rk_install.specs.declared.calling.InstallErr.TheVariants as install
use Rattle.rk_seal.specs.declared.plan.Plan.{Plan}
use Rattle.rk_kernel.specs.World.{World}
use Rattle.rk_replay.specs.declared.ran.Ran.{Ran}
use Rattle.rk_traces.specs.Run.{Outcome as Run}
use Rattle.rk_traces.specs.Spoken.{AreSpoken}
use Rattle.tr_record.specs.Generations.{records}
use Rattle.rk_request.specs.Asked.{turns, is_fresh}
use Rattle.rk_request.specs.declared.requests.Request.{Request}
use Rattle.rk_build.specs.Outcomes.{Checked, outcome_of_stop, IfSpecial, IfDamaged, IfForged, EndsSo, EndsWith, HasStatus, Tallies, IsLeft, RanSo, StartsBoth, Leaves, FolderCounts, PartlyInstalled, StoppedAt, Tried, Halts, GainsAll, Gains, GainsErrors, InOrder, Counts, Counted, ErrorsCounted, Ticked}
use Rattle.rk_build.specs.Stages.{PreparesSo, IsPrepared, ReadsCounted, WritesCounted, MemoryRose, InstallsSo, StartsSo}
use Rattle.rk_build.specs.Telling.{SinkState, IsPut, IsCut, PutsLine, PutsOutput, PutsErrors, PutsInOrder}
use Rattle.rk_build.specs.Texts.{BothCounted, MemoryCounted}
use Rattle.rk_build.specs.Checks.{TellsForged}
use Rattle.rk_build.specs.Run.{fresh_run}
use Rattle.rk_build.specs.Fresh.{RunText, output_of, error_text_of}
use Rattle.rk_build.specs.Explained.{explanation}
use Rattle.rk_build.specs.Kept.{Keeping, IsDamaged, state_in, decoded}
use Rattle.rk_build.specs.declared.stop.Refusal.TheVariants as refusal
use Rattle.rk_build.specs.declared.outcome.Outcome.{Outcome}
use Rattle.rk_build.specs.declared.outcome.Outcome.TheVariants as out
use Rattle.rk_build.specs.declared.work.Ended.{Ended}
use Rattle.rk_build.proofs.CheckLemmas.{both-cut}
use Rattle.rk_build.proofs.PushedLemmas.{pushed-spoken}
use Rattle.rk_build.specs.declared.work.Prepared.{Prepared}
use Rattle.rk_build.specs.declared.stop.BuildErr.{BuildErr}
use Rattle.rk_build.specs.declared.stop.BuildErr.TheVariants as stop

pub with_bytes-nil : (old : Option Text) → with_bytes [] old ≡ old
with_bytes-nil None = refl
with_bytes-nil (Some front) = ap Some (append-nil front)

pub counts-same : (before now : Counts) → now.reads ≡ before.reads → now.writes ≡ before.writes → now.puts ≡ before.puts → now.error_puts ≡ before.error_puts → now ≡ before
counts-same before now r w p e =
    ap (λ (r : ℕ). record { reads = r; writes = now.writes; puts = now.puts; error_puts = now.error_puts }) r
    ∙ ap (λ (w : ℕ). record { reads = before.reads; writes = w; puts = now.puts; error_puts = now.error_puts }) w
    ∙ ap (λ (p : ℕ). record { reads = before.reads; writes = before.writes; puts = p; error_puts = now.error_puts }) p
    ∙ ap (λ (e : ℕ). record { reads = before.reads; writes = before.writes; puts = before.puts; error_puts = e }) e

-- Before anything was put out.

pub prepare-leaves : (first : KeyValue → Says) (request : Request) (told new : Option Held) (before now : ℕ) (b n : FolderCounts) (e : BuildErr) → PreparesSo first request told before now (Err e) → new ≡ told → Leaves first request told new b n (outcome_of_stop e)
prepare-leaves first request told new before now b n (stop.Refused (refusal.Special path)) p same = (same, p.0)
prepare-leaves first request told new before now b n (stop.Refused (refusal.Damaged file damage)) p same = (same, p.0)
prepare-leaves first request told new before now b n (stop.Forged rec step) p same = (same, p.0)
prepare-leaves first request told new before now b n stop.Spent p same = (same, p.0)
prepare-leaves first request told new before now b n stop.ReadFault p same = same
prepare-leaves first request told new before now b n stop.WriteFault p same = absurd p
prepare-leaves first request told new before now b n stop.NoMemory p same = inl same

pub prepare-gains : (first : KeyValue → Says) (request : Request) (told : Option Held) (old new : SinkState) (before now : ℕ) (e : BuildErr) → PreparesSo first request told before now (Err e) → new ≡ old → Gains first request told old new (outcome_of_stop e)
prepare-gains first request told old new before now (stop.Refused (refusal.Special path)) p same = same
prepare-gains first request told old new before now (stop.Refused (refusal.Damaged file damage)) p same = same
prepare-gains first request told old new before now (stop.Forged rec step) p same = same
prepare-gains first request told old new before now stop.Spent p same = same
prepare-gains first request told old new before now stop.ReadFault p same = same
prepare-gains first request told old new before now stop.WriteFault p same = absurd p
prepare-gains first request told old new before now stop.NoMemory p same = inl same

pub prepare-errors : (first : KeyValue → Says) (request : Request) (told : Option Held) (old new : SinkState) (before now : ℕ) (e : BuildErr) → PreparesSo first request told before now (Err e) → new ≡ old → GainsErrors first request told old new (outcome_of_stop e)
prepare-errors first request told old new before now (stop.Refused (refusal.Special path)) p same = same
prepare-errors first request told old new before now (stop.Refused (refusal.Damaged file damage)) p same = same
prepare-errors first request told old new before now (stop.Forged rec step) p same = same
prepare-errors first request told old new before now stop.Spent p same = same
prepare-errors first request told old new before now stop.ReadFault p same = same
prepare-errors first request told old new before now stop.WriteFault p same = absurd p
prepare-errors first request told old new before now stop.NoMemory p same = inl same

pub prepare-ticked : (first : KeyValue → Says) (request : Request) (told : Option Held) (before now : ℕ) (e : BuildErr) → PreparesSo first request told before now (Err e) → Ticked request before now (outcome_of_stop e)
prepare-ticked first request told before now (stop.Refused (refusal.Special path)) p = p.1
prepare-ticked first request told before now (stop.Refused (refusal.Damaged file damage)) p = p.1
prepare-ticked first request told before now (stop.Forged rec step) p = (p.1, p.2)
prepare-ticked first request told before now stop.Spent p = p.1
prepare-ticked first request told before now stop.ReadFault p = p
prepare-ticked first request told before now stop.WriteFault p = absurd p
prepare-ticked first request told before now stop.NoMemory p = p

pub prepare-counted : (first : KeyValue → Says) (request : Request) (told : Option Held) (before now : ℕ) (b n : Counts) (e : BuildErr) → PreparesSo first request told before now (Err e) → ReadsCounted {T = Prepared} b.reads n.reads (Err e) → n.writes ≡ b.writes → n.puts ≡ b.puts → n.error_puts ≡ b.error_puts → Counted b n (outcome_of_stop e)
prepare-counted first request told before now b n (stop.Refused (refusal.Special path)) p r w o x = counts-same b n r w o x
prepare-counted first request told before now b n (stop.Refused (refusal.Damaged file damage)) p r w o x = counts-same b n r w o x
prepare-counted first request told before now b n (stop.Forged rec step) p r w o x = counts-same b n r w o x
prepare-counted first request told before now b n stop.Spent p r w o x = counts-same b n r w o x
prepare-counted first request told before now b n stop.ReadFault p r w o x = (r, w, o, x)
prepare-counted first request told before now b n stop.WriteFault p r w o x = absurd p
prepare-counted first request told before now b n stop.NoMemory p r w o x = counts-same b n r w o x

-- nothing was put in the error text's sink
pub unput-errors : (s : SinkState) (o : Outcome) → ErrorsCounted s s o
unput-errors s (out.Ended status launched ran) = (refl, refl)
unput-errors s out.Usage = (refl, refl)
unput-errors s (out.Said status) = (refl, refl)
unput-errors s (out.Special path) = (refl, refl)
unput-errors s (out.Damaged file damage) = (refl, refl)
unput-errors s (out.Forged rec step) = (refl, refl)
unput-errors s out.Spent = (refl, refl)
unput-errors s out.ReadFault = (refl, refl)
unput-errors s out.WriteFault = (omega arith, refl)
unput-errors s out.NoMemory = (refl, omega arith)

-- A put failed.

pub put-leaves : (first : KeyValue → Says) (request : Request) (told new : Option Held) (b n : FolderCounts) (text : Text) (o m : SinkState) (e : BuildErr) → PutsOutput {T = Unit {0}} text o m (Err e) → new ≡ told → Leaves first request told new b n (outcome_of_stop e)
put-leaves first request told new b n text o m (stop.Refused refusal) p same = absurd p
put-leaves first request told new b n text o m (stop.Forged rec step) p same = absurd p
put-leaves first request told new b n text o m stop.Spent p same = absurd p
put-leaves first request told new b n text o m stop.ReadFault p same = absurd p
put-leaves first request told new b n text o m stop.WriteFault p same = inl same
put-leaves first request told new b n text o m stop.NoMemory p same = inl same

-- of the text that the run has over spoken records
abbrev pub IsTextOf : (KeyValue → Says) → Request → RunText → Option Held → Text → Type 0
IsTextOf first request text told it = IfSome told (λ held. Keeping (is_fresh request) held (λ entries kept. AreSpoken first (records kept) → it ≡ text request kept (fresh_run first request entries)))

pub output-told : (first : KeyValue → Says) (request : Request) (told : Option Held) (before now : ℕ) (p : Prepared) → IfSome told (λ held. IsPrepared first request held before now p) → IsTextOf first request output_of told p.world.out
output-told first request None before now p is = tt
output-told first request (Some held) before now p is = record { plain = is.plain; rows = is.rows; old = is.old; kept = is.kept; so = λ spoken. is.out ∙ sym (ap (output_of request is.old) (is.run.ends spoken).1) }

pub error_text-told : (first : KeyValue → Says) (request : Request) (told : Option Held) (before now : ℕ) (p : Prepared) → IfSome told (λ held. IsPrepared first request held before now p) → IsTextOf first request error_text_of told p.error_text
error_text-told first request None before now p is = tt
error_text-told first request (Some held) before now p is = record { plain = is.plain; rows = is.rows; old = is.old; kept = is.kept; so = λ spoken. is.text ∙ ap (λ (ran : List Ran). is.world.err ++ explanation request ran (length is.built.table)) is.replay.ran ∙ sym (ap (error_text_of request is.old) (is.run.ends spoken).1) }

-- of a text that is the same
pub text-told : (first : KeyValue → Says) (request : Request) (text : RunText) (told : Option Held) (it out : Text) → it ≡ out → IsTextOf first request text told out → IsTextOf first request text told it
text-told first request text told it out same is = subst (IsTextOf first request text told) (sym same) is

tried : (first : KeyValue → Says) (request : Request) (text : RunText) (told : Option Held) (it : Text) (old new : SinkState) → IsTextOf first request text told it → PutsLine it old new → Tried first request text told old new
tried first request text None it old new is put = tt
tried first request text (Some held) it old new is put = record { plain = is.plain; rows = is.rows; old = is.old; kept = is.kept; so = record { it = it; is_text = is.so; put = put } }

pub put-gains : (first : KeyValue → Says) (request : Request) (told : Option Held) (it : Text) (old new : SinkState) (e : BuildErr) → IsTextOf first request output_of told it → PutsOutput {T = Unit {0}} it old new (Err e) → Gains first request told old new (outcome_of_stop e)
put-gains first request told it old new (stop.Refused refusal) is p = absurd p
put-gains first request told it old new (stop.Forged rec step) is p = absurd p
put-gains first request told it old new stop.Spent is p = absurd p
put-gains first request told it old new stop.ReadFault is p = absurd p
put-gains first request told it old new stop.WriteFault is p = tried first request output_of told it old new is p
put-gains first request told it old new stop.NoMemory is p = inr (tried first request output_of told it old new is p)

errors-cut : (first : KeyValue → Says) (request : Request) (told : Option Held) (it : Text) (old new : SinkState) → IsTextOf first request error_text_of told it → (new ≡ old) ⊎ IsCut it old new → Halts first request error_text_of told old new
errors-cut first request told it old new is (inl same) = inl same
errors-cut first request told it old new is (inr cut) = inr (tried first request error_text_of told it old new is (inr cut))

pub put-gains-errors : (first : KeyValue → Says) (request : Request) (told : Option Held) (it : Text) (old new : SinkState) (e : BuildErr) → IsTextOf first request error_text_of told it → PutsErrors {T = Unit {0}} it old new (Err e) → GainsErrors first request told old new (outcome_of_stop e)
put-gains-errors first request told it old new (stop.Refused refusal) is p = absurd p
put-gains-errors first request told it old new (stop.Forged rec step) is p = absurd p
put-gains-errors first request told it old new stop.Spent is p = absurd p
put-gains-errors first request told it old new stop.ReadFault is p = absurd p
put-gains-errors first request told it old new stop.WriteFault is p = errors-cut first request told it old new is p
put-gains-errors first request told it old new stop.NoMemory is p = errors-cut first request told it old new is p

-- the error text was put once the output went out
pub put-order : (first : KeyValue → Says) (request : Request) (told : Option Held) (it : Text) (old new err_old err_new : SinkState) → IsTextOf first request output_of told it → PutsInOrder it old new err_old err_new → InOrder first request told (record { out = old; err = err_old }) (record { out = new; err = err_new })
put-order first request told it old new err_old err_new is (inl same) = inl same
put-order first request None it old new err_old err_new is (inr put) = inr tt
put-order first request (Some held) it old new err_old err_new is (inr put) =
    inr (record { plain = is.plain; rows = is.rows; old = is.old; kept = is.kept; so = record { it = it; is_text = is.so; put = put } })

pub put-counted : (b n : Counts) (text : Text) (old new : SinkState) (e : BuildErr) → PutsOutput {T = Unit {0}} text old new (Err e) → BothCounted {T = Unit {0}} b.puts n.puts b.error_puts n.error_puts (Err e) → n.reads ≡ b.reads → n.writes ≡ b.writes → Counted b n (outcome_of_stop e)
put-counted b n text old new (stop.Refused refusal) p c r w = absurd p
put-counted b n text old new (stop.Forged rec step) p c r w = absurd p
put-counted b n text old new stop.Spent p c r w = absurd p
put-counted b n text old new stop.ReadFault p c r w = absurd p
put-counted b n text old new stop.WriteFault p c r w = (r, inr c.2)
put-counted b n text old new stop.NoMemory p c r w = counts-same b n r w c.0 c.1

pub put-errors : (b n : ℕ) (before now : SinkState) (text : Text) (old new : SinkState) (e : BuildErr) → PutsOutput {T = Unit {0}} text old new (Err e) → BothCounted {T = Unit {0}} b n before.faults now.faults (Err e) → MemoryCounted {T = Unit {0}} before.memory now.memory (Err e) → ErrorsCounted before now (outcome_of_stop e)
put-errors b n before now text old new (stop.Refused refusal) p c m = absurd p
put-errors b n before now text old new (stop.Forged rec step) p c m = absurd p
put-errors b n before now text old new stop.Spent p c m = absurd p
put-errors b n before now text old new stop.ReadFault p c m = absurd p
put-errors b n before now text old new stop.WriteFault p c m = (c.1, m)
put-errors b n before now text old new stop.NoMemory p c m = (c.1, m)

pub put-ticked : (request : Request) (before now : ℕ) (text : Text) (old new : SinkState) (e : BuildErr) → PutsOutput {T = Unit {0}} text old new (Err e) → now ≤ before + turns request → Ticked request before now (outcome_of_stop e)
put-ticked request before now text old new (stop.Refused refusal) p most = absurd p
put-ticked request before now text old new (stop.Forged rec step) p most = absurd p
put-ticked request before now text old new stop.Spent p most = most
put-ticked request before now text old new stop.ReadFault p most = most
put-ticked request before now text old new stop.WriteFault p most = most
put-ticked request before now text old new stop.NoMemory p most = most

pub left : (first : KeyValue → Says) (request : Request) (held : Held) (before now : ℕ) (p : Prepared) → (is : IsPrepared first request held before now p) → AreSpoken first (records is.old) → IsLeft (fresh_run first request (with_rows (snapshot_of held) is.rows)) is.world is.built.table
left first request held before now p is spoken =
    subst (λ (r : Run World). IsLeft r is.world is.built.table) (sym (is.run.ends spoken).1) (refl, refl)

-- so many commands ran
ran-so : (first : KeyValue → Says) (request : Request) (told : Option Held) (before now : ℕ) (p : Prepared) → IfSome told (λ held. IsPrepared first request held before now p) → RanSo first request told (length p.ended.ran)
ran-so first request None before now p is = tt
ran-so first request (Some held) before now p is = record {
  plain = is.plain;
  rows = is.rows;
  old = is.old;
  kept = is.kept;
  so = record {
    world = is.world;
    table = is.built.table;
    is_left = λ spoken. left first request held before now p is spoken;
    count = ap (λ (e : Ended). length e.ran) is.ended ∙ ap (λ (ran : List Ran). length ran) is.replay.ran;
  };
}

pub put-starts : (first : KeyValue → Says) (request : Request) (told : Option Held) (live late before now : ℕ) (p : Prepared) (text : Text) (old new : SinkState) (e : BuildErr) → IfSome told (λ held. IsPrepared first request held live late p) → PutsOutput {T = Unit {0}} text old new (Err e) → length p.ended.ran ≤ turns request + 1 → StartsBoth request told before now (length p.ended.ran) → StartsSo {T = Ended} (λ e. length e.ran) first request told before now (Err e)
put-starts first request told live late before now p text old new (stop.Refused refusal) is put few starts = absurd put
put-starts first request told live late before now p text old new (stop.Forged rec step) is put few starts = absurd put
put-starts first request told live late before now p text old new stop.Spent is put few starts = absurd put
put-starts first request told live late before now p text old new stop.ReadFault is put few starts = absurd put
put-starts first request told live late before now p text old new stop.WriteFault is put few starts = (length p.ended.ran, (ran-so first request told live late p is, starts))
put-starts first request told live late before now p text old new stop.NoMemory is put few starts = both-cut request told before now (length p.ended.ran) starts few

pub install-starts : (first : KeyValue → Says) (request : Request) (told h k : Option Held) (plan : Plan) (live late before now : ℕ) (p : Prepared) (e : BuildErr) → IfSome told (λ held. IsPrepared first request held live late p) → InstallsSo {T = Unit {0}} plan h k (Err e) → length p.ended.ran ≤ turns request + 1 → StartsBoth request told before now (length p.ended.ran) → StartsSo {T = Ended} (λ e. length e.ran) first request told before now (Err e)
install-starts first request told h k plan live late before now p (stop.Refused refusal) is part few starts = absurd part
install-starts first request told h k plan live late before now p (stop.Forged rec step) is part few starts = absurd part
install-starts first request told h k plan live late before now p stop.Spent is part few starts = absurd part
install-starts first request told h k plan live late before now p stop.ReadFault is part few starts = absurd part
install-starts first request told h k plan live late before now p stop.WriteFault is part few starts = (length p.ended.ran, (ran-so first request told live late p is, starts))
install-starts first request told h k plan live late before now p stop.NoMemory is part few starts = both-cut request told before now (length p.ended.ran) starts few

-- A call of the installation failed.

pub may_run : (first : KeyValue → Says) (request : Request) (told : Option Held) (before now : ℕ) (p : Prepared) → IfSome told (λ held. IsPrepared first request held before now p) → IfSome told (AllowsPlan p.plan)
may_run first request None before now p is = tt
may_run first request (Some held) before now p is = is.allowed

partly : (first : KeyValue → Says) (request : Request) (told new : Option Held) (before now : ℕ) (p : Prepared) (e : InstallErr) → IfSome told (λ held. IsPrepared first request held before now p) → IfSome told (λ held. StopsPlan p.plan held new) → (e ≡ install.NoMemory → IfSome told (λ held. IsMomentOf p.plan held new))
    → IfSome told (λ held. Keeping (is_fresh request) held (λ entries old. PartlyInstalled first request entries old held new e))
partly first request None new before now p e is stops clean = tt
partly first request (Some held) new before now p e is stops clean = record {
  plain = is.plain;
  rows = is.rows;
  old = is.old;
  kept = is.kept;
  so = record {
    world = is.world;
    table = is.built.table;
    is_left = λ spoken. left first request held before now p is spoken;
    kept = is.left;
    pushed = is.pushed;
    readable = is.readable;
    plan = p.plan;
    is_plan = is.plan;
    stops = stops;
    clean = clean;
  };
}

-- a write fault isn't want of memory
faulty : {P : Type 0} → install.WriteFault ≡ install.NoMemory → P
faulty same = absurd (no same) where
  no : install.WriteFault ≡ install.NoMemory → ⊥
  no e = cc

-- want of memory that isn't the folder's changed nothing
memory-leaves : (first : KeyValue → Says) (request : Request) (told new : Option Held) (before now b n : ℕ) (p : Prepared) → IfSome told (λ held. IsPrepared first request held before now p) → IfSome told (λ held. StopsPlan p.plan held new) → IfSome told (λ held. IsMomentOf p.plan held new) → (new ≡ told) ⊎ Rose b n → StoppedAt first request told new b n install.NoMemory
memory-leaves first request told new before now b n p is stops clean (inl same) = inl same
memory-leaves first request told new before now b n p is stops clean (inr rose) = inr (rose, partly first request told new before now p install.NoMemory is stops (λ e. clean))

pub install-leaves : (first : KeyValue → Says) (request : Request) (told new : Option Held) (before now : ℕ) (b n : FolderCounts) (p : Prepared) (e : BuildErr) → IfSome told (λ held. IsPrepared first request held before now p) → InstallsSo {T = Unit {0}} p.plan told new (Err e) → WritesCounted {T = Unit {0}} b.writes n.writes (Err e)
    → MemoryRose {T = Unit {0}} told new b.memory n.memory (Err e) → Leaves first request told new b n (outcome_of_stop e)
install-leaves first request told new before now b n p (stop.Refused refusal) is stops w m = absurd stops
install-leaves first request told new before now b n p (stop.Forged rec step) is stops w m = absurd stops
install-leaves first request told new before now b n p stop.Spent is stops w m = absurd stops
install-leaves first request told new before now b n p stop.ReadFault is stops w m = absurd stops
install-leaves first request told new before now b n p stop.WriteFault is stops w m = inr (w, partly first request told new before now p install.WriteFault is stops (λ e. faulty e))
install-leaves first request told new before now b n p stop.NoMemory is stops w m = memory-leaves first request told new before now b.memory n.memory p is stops.0 stops.1 m

-- a folder that tells the same
pub install-leaves-now : (first : KeyValue → Says) (request : Request) (told h new : Option Held) (before now : ℕ) (b c n : FolderCounts) (p : Prepared) (e : BuildErr) → h ≡ told → c.writes ≡ b.writes → c.memory ≡ b.memory → IfSome told (λ held. IsPrepared first request held before now p) → InstallsSo {T = Unit {0}} p.plan h new (Err e) → WritesCounted {T = Unit {0}} c.writes n.writes (Err e) → MemoryRose {T = Unit {0}} h new c.memory n.memory (Err e) → Leaves first request told new b n (outcome_of_stop e)
install-leaves-now first request told h new before now b c n p e same writes memory is part w m =
    install-leaves first request told new before now b n p e is (subst (λ (t : Option Held). InstallsSo {T = Unit {0}} p.plan t new (Err e)) same part)
    (subst (λ (k : ℕ). WritesCounted {T = Unit {0}} k n.writes (Err e)) writes w)
    (subst (λ (k : ℕ). MemoryRose {T = Unit {0}} told new k n.memory (Err e)) memory (subst (λ (t : Option Held). MemoryRose {T = Unit {0}} t new c.memory n.memory (Err e)) same m))

pub install-gains : (first : KeyValue → Says) (request : Request) (told h n : Option Held) (plan : Plan) (it : Text) (old new : SinkState) (e : BuildErr) → IsTextOf first request output_of told it → InstallsSo {T = Unit {0}} plan h n (Err e) → IsPut it old new → Gains first request told old new (outcome_of_stop e)
install-gains first request told h n plan it old new (stop.Refused refusal) is part put = absurd part
install-gains first request told h n plan it old new (stop.Forged rec step) is part put = absurd part
install-gains first request told h n plan it old new stop.Spent is part put = absurd part
install-gains first request told h n plan it old new stop.ReadFault is part put = absurd part
install-gains first request told h n plan it old new stop.WriteFault is part put = tried first request output_of told it old new is (inl put)
install-gains first request told h n plan it old new stop.NoMemory is part put = inr (tried first request output_of told it old new is (inl put))

pub install-gains-errors : (first : KeyValue → Says) (request : Request) (told h n : Option Held) (plan : Plan) (it : Text) (old new : SinkState) (e : BuildErr) → IsTextOf first request error_text_of told it → InstallsSo {T = Unit {0}} plan h n (Err e) → IsPut it old new → GainsErrors first request told old new (outcome_of_stop e)
install-gains-errors first request told h n plan it old new (stop.Refused refusal) is part put = absurd part
install-gains-errors first request told h n plan it old new (stop.Forged rec step) is part put = absurd part
install-gains-errors first request told h n plan it old new stop.Spent is part put = absurd part
install-gains-errors first request told h n plan it old new stop.ReadFault is part put = absurd part
install-gains-errors first request told h n plan it old new stop.WriteFault is part put = inr (tried first request error_text_of told it old new is (inl put))
install-gains-errors first request told h n plan it old new stop.NoMemory is part put = inr (tried first request error_text_of told it old new is (inl put))

pub install-counted : (b n : Counts) (h k : Option Held) (plan : Plan) (e : BuildErr) → InstallsSo {T = Unit {0}} plan h k (Err e) → WritesCounted {T = Unit {0}} b.writes n.writes (Err e) → n.reads ≡ b.reads → n.puts ≡ b.puts → n.error_puts ≡ b.error_puts → Counted b n (outcome_of_stop e)
install-counted b n h k plan (stop.Refused refusal) part w r o x = absurd part
install-counted b n h k plan (stop.Forged rec step) part w r o x = absurd part
install-counted b n h k plan stop.Spent part w r o x = absurd part
install-counted b n h k plan stop.ReadFault part w r o x = absurd part
install-counted b n h k plan stop.WriteFault part w r o x = (r, inl w)
install-counted b n h k plan stop.NoMemory part w r o x = counts-same b n r w o x

pub install-errors : (before now : SinkState) (h k : Option Held) (plan : Plan) (e : BuildErr) → InstallsSo {T = Unit {0}} plan h k (Err e) → now.faults ≡ before.faults → now.memory ≡ before.memory → ErrorsCounted before now (outcome_of_stop e)
install-errors before now h k plan (stop.Refused refusal) part f m = absurd part
install-errors before now h k plan (stop.Forged rec step) part f m = absurd part
install-errors before now h k plan stop.Spent part f m = absurd part
install-errors before now h k plan stop.ReadFault part f m = absurd part
install-errors before now h k plan stop.WriteFault part f m = (omega arith, m)
install-errors before now h k plan stop.NoMemory part f m = (f, omega arith)

pub install-ticked : (request : Request) (h k : Option Held) (plan : Plan) (before now : ℕ) (e : BuildErr) → InstallsSo {T = Unit {0}} plan h k (Err e) → now ≤ before + turns request → Ticked request before now (outcome_of_stop e)
install-ticked request h k plan before now (stop.Refused refusal) part most = absurd part
install-ticked request h k plan before now (stop.Forged rec step) part most = absurd part
install-ticked request h k plan before now stop.Spent part most = most
install-ticked request h k plan before now stop.ReadFault part most = most
install-ticked request h k plan before now stop.WriteFault part most = most
install-ticked request h k plan before now stop.NoMemory part most = most

-- All went well.

ended : (first : KeyValue → Says) (request : Request) (held : Held) (before now : ℕ) (p : Prepared) (new : Option Held) → (is : IsPrepared first request held before now p) → new ≡ Some (carried p.plan held) → AreSpoken first (records is.old) → EndsSo first (fresh_run first request (with_rows (snapshot_of held) is.rows)) is.old held new
ended first request held before now p new is same spoken =
    subst (λ (r : Run World). EndsSo first r is.old held new) (sym (is.run.ends spoken).1)
    (record { kept = is.left; pushed = is.pushed; spoken = pushed-spoken first is.built.table is.old is.left is.pushed (is.run.spoken spoken) spoken; fits = is.fits spoken; installed = record { after = carried p.plan held; told = same; is_after = is.leads; readable = is.readable }; next = is.next spoken })

pub end-leaves : (first : KeyValue → Says) (request : Request) (told new : Option Held) (before now : ℕ) (b n : FolderCounts) (p : Prepared) (status launched ran : ℕ) → IfSome told (λ held. IsPrepared first request held before now p) → new ≡ option_map (carried p.plan) told → Leaves first request told new b n (out.Ended status launched ran)
end-leaves first request None new before now b n p status launched ran is same = tt
end-leaves first request (Some held) new before now b n p status launched ran is same =
    record { plain = is.plain; rows = is.rows; old = is.old; kept = is.kept; so = λ spoken. ended first request held before now p new is same spoken }

pub end-status : (first : KeyValue → Says) (request : Request) (told : Option Held) (before now : ℕ) (p : Prepared) → IfSome told (λ held. IsPrepared first request held before now p) → HasStatus first request told p.ended.status
end-status first request None before now p is = tt
end-status first request (Some held) before now p is =
    record { plain = is.plain; rows = is.rows; old = is.old; kept = is.kept; so = λ spoken. subst (λ (r : Run World). EndsWith r p.ended.status) (sym (is.run.ends spoken).1) (ap (λ (e : Ended). e.status) is.ended) }

-- where every record was to be checked, each is spoken
pub end-checked : (first : KeyValue → Says) (request : Request) (told : Option Held) (before now : ℕ) (p : Prepared) → IfSome told (λ held. IsPrepared first request held before now p) → Checked first request told
end-checked first request None before now p is = tt
end-checked first request (Some held) before now p is = record { plain = is.plain; rows = is.rows; old = is.old; kept = is.kept; so = is.checked }

pub end-tally : (first : KeyValue → Says) (request : Request) (told new : Option Held) (before now : ℕ) (p : Prepared) → IfSome told (λ held. IsPrepared first request held before now p) → new ≡ option_map (carried p.plan) told → Tallies first request told new before now p.ended.launched (length p.ended.ran)
end-tally first request None new before now p is same = tt
end-tally first request (Some held) new before now p is same = record {
  plain = is.plain;
  rows = is.rows;
  old = is.old;
  kept = is.kept;
  so = record {
    world = is.world;
    table = is.built.table;
    is_left = λ spoken. left first request held before now p is spoken;
    kept = is.left;
    pushed = is.pushed;
    installed = record { after = carried p.plan held; told = same; is_after = is.leads; readable = is.readable };
    launched = ap (λ (e : Ended). e.launched) is.ended;
    ran = ap (λ (e : Ended). length e.ran) is.ended ∙ ap (λ (ran : List Ran). length ran) is.replay.ran;
    paid = is.replay.ticked;
  };
}

pub end-gains : (first : KeyValue → Says) (request : Request) (text : RunText) (told : Option Held) (it : Text) (old new : SinkState) → IsTextOf first request text told it → IsPut it old new → GainsAll first request text told old new
end-gains first request text None it old new is put = tt
end-gains first request text (Some held) it old new is put =
    record { plain = is.plain; rows = is.rows; old = is.old; kept = is.kept; so = λ spoken. subst (λ (t : Text). IsPut t old new) (is.so spoken) put }

-- What is said of the refusals.

pub special-first : (first : KeyValue → Says) (request : Request) (told new : Option Held) (b n : FolderCounts) (outcome : Outcome) → Leaves first request told new b n outcome → IfSpecial outcome (λ path. IfSome told (λ held. first_special held ≡ Some path))
special-first first request told new b n (out.Special path) l = l.1
special-first first request told new b n (out.Ended status launched ran) l = tt
special-first first request told new b n out.Usage l = tt
special-first first request told new b n (out.Said status) l = tt
special-first first request told new b n (out.Damaged file damage) l = tt
special-first first request told new b n out.Spent l = tt
special-first first request told new b n (out.Forged rec step) l = tt
special-first first request told new b n out.ReadFault l = tt
special-first first request told new b n out.WriteFault l = tt
special-first first request told new b n out.NoMemory l = tt

pub damaged-first : (first : KeyValue → Says) (request : Request) (told new : Option Held) (b n : FolderCounts) (outcome : Outcome) → Leaves first request told new b n outcome → IfDamaged outcome (λ file damage. IfSome told (λ held. (first_special held ≡ None) × IsDamaged (decoded (is_fresh request) (state_in held)) file damage))
damaged-first first request told new b n (out.Damaged file damage) l = l.1
damaged-first first request told new b n (out.Ended status launched ran) l = tt
damaged-first first request told new b n out.Usage l = tt
damaged-first first request told new b n (out.Said status) l = tt
damaged-first first request told new b n (out.Special path) l = tt
damaged-first first request told new b n out.Spent l = tt
damaged-first first request told new b n (out.Forged rec step) l = tt
damaged-first first request told new b n out.ReadFault l = tt
damaged-first first request told new b n out.WriteFault l = tt
damaged-first first request told new b n out.NoMemory l = tt

pub forged-so : (first : KeyValue → Says) (request : Request) (told new : Option Held) (b n : FolderCounts) (outcome : Outcome) → Leaves first request told new b n outcome → IfForged outcome (λ rec step. IfSome told (λ held. Keeping (is_fresh request) held (λ entries old. TellsForged first request (records old) rec step)))
forged-so first request told new b n (out.Forged rec step) l = l.1
forged-so first request told new b n (out.Ended status launched ran) l = tt
forged-so first request told new b n out.Usage l = tt
forged-so first request told new b n (out.Said status) l = tt
forged-so first request told new b n (out.Special path) l = tt
forged-so first request told new b n (out.Damaged file damage) l = tt
forged-so first request told new b n out.Spent l = tt
forged-so first request told new b n out.ReadFault l = tt
forged-so first request told new b n out.WriteFault l = tt
forged-so first request told new b n out.NoMemory l = tt
