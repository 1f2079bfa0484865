-- Sessions of made workloads.
use Rattle.std.proofs.Common.{◌≡◌, ◌≢◌, ℕ, ◌+◌, ◌<◌, ◌≤◌, ◌^◌, List, [], ◌∷◌, length, slice_get, inl, inr, Option, Some, None, Result, Ok, Err, IfOk, false, refl, sym, ap, subst, ◌∙◌, add-one, arith}
use Rattle.rk_base.specs.Text.{Text}
use Rattle.rk_calls.specs.Keys.{KeyValue}
use Rattle.rk_calls.specs.Talk.{Says}
use Rattle.tr_record.specs.Generations.{IsPushed, records, table_at}
use Rattle.tr_record.specs.declared.records.Record.{Record}
use Rattle.rk_attrs.specs.declared.rows.AttrRow.{AttrRow}
use Rattle.rk_folder.specs.Attributes.{with_rows}
use Rattle.rk_folder.specs.Hidden.{attrs_file, db_file}
use Rattle.rk_folder.specs.Import.{snapshot_of}
use Rattle.rk_folder.specs.Told.{Held, bytes_in, root_alone}
use Rattle.rk_folder.specs.declared.folder.Standing.{Standing}
use Rattle.rk_gen.specs.Edits.{edited}
use Rattle.rk_gen.specs.Start.{Made, files_of, made_of}
use Rattle.rk_gen.specs.Summary.{Sums, added, no_figures}
use Rattle.rk_gen.specs.declared.edits.Edit.{Edit}
use Rattle.rk_gen.specs.declared.files.File.{File}
use Rattle.rk_gen.specs.Changed.{changed, with_files}
use Rattle.rk_gen.proofs.PlainLemmas.{edits-plainly, starts-plainly}
use Rattle.rk_changes.specs.Holdings.{IsAfter}
use Rattle.rk_changes.proofs.HiddenLemmas.{attrs_hidden, db_hidden}
use Rattle.rk_kernel.specs.World.{World}
use Rattle.rk_replay.specs.Ran.{ran_total}
use Rattle.rk_traces.specs.Run.{Outcome as Run, Done, Spent}
use Rattle.rk_traces.specs.Spoken.{AreSpoken}
use Rattle.rk_tree.specs.Entries.{Entries}
use Rattle.rk_build.specs.Fresh.{held_after}
use Rattle.rk_top.specs.Generated.{ComesTo, Generates, IsBuilt, IsLine, KeepsTables, Reaches, Stage, edit_after, edited_stage, line_of_stage, plain_build, workload_after}
use Rattle.rk_build.specs.Kept.{AreRows, AreTables, Keeping, ReadsDb, state_in}
use Rattle.rk_build.specs.Checks.{TellsForged}
use Rattle.rk_build.specs.Outcomes.{EndsSo, FolderCounts, IsLeft, IsNext, IsNoFault, IsTally, Leaves}
use Rattle.rk_build.specs.Run.{fresh_run, ran_count}
use Rattle.rk_build.specs.Sessions.{IsWell}
use Rattle.rk_build.specs.declared.outcome.Outcome.{Outcome}
use Rattle.rk_build.specs.declared.outcome.Outcome.TheVariants as out
use Rattle.rk_build.specs.declared.outcome.StateFile.TheVariants as file
use Rattle.rk_build.specs.declared.stop.BuildErr.{BuildErr}
use Rattle.rk_build.specs.declared.stop.BuildErr.TheVariants as stop
use Rattle.rk_build.specs.declared.stop.Refusal.TheVariants as refusal
use Rattle.rk_build.specs.Telling.{IsNamed, IsTold}
use Rattle.rk_build.proofs.SettledLemmas.{db-clash, forged-clash, refused-kept}
use Rattle.rk_build.proofs.TellLemmas.{as_told}

-- what is told twice of a folder is told of the same entries and tables
pub one-kept : (held : Held) (P Q : Entries → List (List Record) → Type 0) (k : Keeping false held P) → Keeping false held Q → Q (with_rows (snapshot_of held) k.rows) k.old
one-kept held P Q k s =
    let tables : s.old ≡ k.old = s.kept.1.1 k.old k.kept.1.0 in
    let rows : s.rows ≡ k.rows = s.kept.0.1 k.rows k.kept.0.0 in
    subst (λ (r : List (Text × AttrRow)). Q (with_rows (snapshot_of held) r) k.old) rows (subst (λ (t : List (List Record)). Q (with_rows (snapshot_of held) s.rows) t) tables s.so)

-- the table that was pushed is the newest
newest : (table : List Record) (old new : List (List Record)) → IsPushed table old new → table_at 0 new ≡ table
newest table old new (inl moved) = ap (table_at 0) moved.3
newest table old new (inr added) = ap (table_at 0) added.1

-- what the code reads before and after a build that ended, and adds
pub record Adds (before after : Stage) (old kept : List (List Record)) (launched ran : ℕ) : Type 0 where
  pub old_is : AreTables (state_in before.held).db old
  pub kept_is : AreTables (state_in after.held).db kept
  pub sums_are : after.sums ≡ added launched ran (ran_total (records old) (table_at 0 kept)) before.sums

-- what is so of it then
pub record Goes (first : KeyValue → Says) (before after : Stage) (live now : ℕ) (r : Run World) (old : List (List Record)) : Type 0 where
  pub comes : ComesTo r old before after
  pub well : IsWell first after.held
  pub paid : now + before.sums.turns ≡ live + after.sums.turns

same-held : (a b : Held) → Some a ≡ Some b → b ≡ a
same-held a b e = cc

-- by cases on the fresh run
goes : (first : KeyValue → Says) (before after : Stage) (r : Run World) (world : World) (left : List Record) (was old kept : List (List Record)) (launched ran live now : ℕ) → EndsSo first r was before.held (Some after.held) → IsLeft r world left → launched ≡ length left → ran ≡ ran_count (records was) left → now ≡ live + ran_total (records was) left → old ≡ was
    → Adds before after old kept launched ran → Goes first before after live now r was
goes first before after (Done end status rest trace) world left was old kept launched ran live now e is_left is_launched is_ran is_paid is_old adds =
    let same : e.installed.after ≡ after.held = same-held after.held e.installed.after e.installed.told in
    let next : IsNext end e.kept after.held = subst (IsNext end e.kept) same e.next in
    let read : kept ≡ e.kept = adds.kept_is.1 next.old next.kept.1.0 ∙ next.so.1 in
    let first_is : table_at 0 kept ≡ trace = ap (table_at 0) read ∙ newest trace was e.kept e.pushed in
    let is_trace : left ≡ trace = is_left.1 in
    let all : launched ≡ length trace = is_launched ∙ ap length is_trace in
    let some : ran ≡ ran_count (records was) trace = is_ran ∙ ap (ran_count (records was)) is_trace in
    let turns : ran_total (records old) (table_at 0 kept) ≡ ran_total (records was) trace = ap (λ (o : List (List Record)). ran_total (records o) (table_at 0 kept)) is_old ∙ ap (ran_total (records was)) first_is in
    let sums : after.sums ≡ added (length trace) (ran_count (records was) trace) (ran_total (records was) trace) before.sums =
    adds.sums_are
    ∙ ap (λ n. added n ran (ran_total (records old) (table_at 0 kept)) before.sums) all
    ∙ ap (λ n. added (length trace) n (ran_total (records old) (table_at 0 kept)) before.sums) some
    ∙ ap (λ n. added (length trace) (ran_count (records was) trace) n before.sums) turns in
    let rose : now ≡ live + ran_total (records was) trace = is_paid ∙ ap (λ (t : List Record). live + ran_total (records was) t) is_trace in
    let sum : after.sums.turns ≡ before.sums.turns + ran_total (records was) trace = ap (λ (s : Sums). s.turns) sums in
    record {
      comes = record { kept = e.kept; pushed = e.pushed; is_after = subst (λ (h : Held). IsAfter before.held h (held_after end e.kept)) same e.installed.is_after; next = next; sums = sums };
      well = record { plain = next.plain; rows = next.rows; old = next.old; kept = next.kept; so = subst (λ (k : List (List Record)). AreSpoken first (records k)) (sym next.so.1) e.spoken };
      paid = omega arith;
    }
goes first before after Spent world left was old kept launched ran live now e is_left is_launched is_ran is_paid is_old adds = absurd e

-- a build that ended or was spent, over a folder that is well
pub record Built (first : KeyValue → Says) (before after : Stage) (live now : ℕ) : Type 0 where
  pub built : IsBuilt first before after
  pub well : IsWell first after.held
  pub paid : live + after.sums.turns ≤ now + before.sums.turns

-- what the inner call says of an end
abbrev pub Leaving : (KeyValue → Says) → Held → Held → Type 0
Leaving first held new = Keeping false held (λ entries old. AreSpoken first (records old) → EndsSo first (fresh_run first plain_build entries) old held (Some new))

abbrev pub Tallied : (KeyValue → Says) → Held → Held → ℕ → ℕ → ℕ → ℕ → Type 0
Tallied first held new launched ran live now = Keeping false held (λ entries old. IsTally first plain_build entries old held (Some new) launched ran live now)

pub built : (first : KeyValue → Says) (before after : Stage) (old kept : List (List Record)) (launched ran live now : ℕ) → IsWell first before.held → Leaving first before.held after.held → Tallied first before.held after.held launched ran live now → Adds before after old kept launched ran → Built first before after live now
built first before after old kept launched ran live now k l t adds =
    let ends = one-kept before.held _ _ k l k.so in
    let tally = one-kept before.held _ _ k t in
    let is_old : old ≡ k.old = adds.old_is.1 k.old k.kept.1.0 in
    let g = goes first before after (fresh_run first plain_build (with_rows (snapshot_of before.held) k.rows)) tally.world tally.table k.old old kept launched ran live now ends (tally.is_left k.so) tally.launched tally.ran tally.paid is_old adds in
    record { built = record { plain = k.plain; rows = k.rows; old = k.old; kept = k.kept; so = g.comes }; well = g.well; paid = omega (arith, g.paid) }

-- what a build that ended leaves keeps tables
left-keeps : (first : KeyValue → Says) (held new : Held) (r : Run World) (old : List (List Record)) → EndsSo first r old held (Some new) → KeepsTables new
left-keeps first held new (Done world status left table) old e =
    let same : e.installed.after ≡ new = same-held new e.installed.after e.installed.told in
    let next : IsNext world e.kept new = subst (IsNext world e.kept) same e.next in
    (next.old, next.kept.1)
left-keeps first held new Spent old e = absurd e

pub ended-keeps : (first : KeyValue → Says) (held new : Held) → IsWell first held → Leaving first held new → KeepsTables new
ended-keeps first held new k l =
    left-keeps first held new (fresh_run first plain_build (with_rows (snapshot_of held) k.rows)) k.old (one-kept held _ _ k l k.so)

pub same-stage : (a b : Stage) → a.held ≡ b.held → a.sums ≡ b.sums → a ≡ b
same-stage a b held sums = ap (λ (h : Held). record { held = h; sums = a.sums }) held ∙ ap (λ (s : Sums). record { held = b.held; sums = s }) sums

-- a build that is spent leaves all as it is
pub spent-built : (first : KeyValue → Says) (before after : Stage) (counts new_counts : FolderCounts) (live now : ℕ) → IsWell first before.held → Leaves first plain_build (Some before.held) (Some after.held) counts new_counts out.Spent → after.sums ≡ before.sums → live ≤ now → Built first before after live now
spent-built first before after counts new_counts live now k l sums rises =
    let held : after.held ≡ before.held = sym (same-held after.held before.held l.0) in
    let s = l.1 in
    let turns : after.sums.turns ≡ before.sums.turns = ap (λ (it : Sums). it.turns) sums in
    record {
      built = record { plain = s.plain; rows = s.rows; old = s.old; kept = s.kept; so = subst (λ (r : Run World). ComesTo r s.old before after) (sym s.so.1) (same-stage after before held sums) };
      well = subst (IsWell first) (sym held) k;
      paid = omega arith;
    }

-- no other outcome comes, over a folder that is well and of which no call is a fault
pub no-other : (first : KeyValue → Says) (held : Held) (new : Option Held) (counts new_counts : FolderCounts) (outcome : Outcome) → IsWell first held → Leaves first plain_build (Some held) new counts new_counts outcome → outcome ≢ out.Usage → IsNoFault outcome → ((status launched ran : ℕ) → outcome ≢ out.Ended status launched ran) → outcome ≢ out.Spent → outcome ≢ out.NoMemory → ⊥
no-other first held new counts new_counts (out.Ended status launched ran) k l usage fault ended spent memory = ended status launched ran refl
no-other first held new counts new_counts out.Usage k l usage fault ended spent memory = usage refl
no-other first held new counts new_counts (out.Said status) k l usage fault ended spent memory = l
no-other first held new counts new_counts (out.Special path) k l usage fault ended spent memory = refused-kept plain_build held (refusal.Special path) _ l.1 k
no-other first held new counts new_counts (out.Damaged f d) k l usage fault ended spent memory = refused-kept plain_build held (refusal.Damaged f d) _ l.1 k
no-other first held new counts new_counts (out.Forged rec step) k l usage fault ended spent memory =
    let t = one-kept held (λ entries old. AreSpoken first (records old)) (λ entries old. TellsForged first plain_build (records old) rec step) k l.1 in
    forged-clash first (records k.old) rec step k.so t.wrong
no-other first held new counts new_counts out.Spent k l usage fault ended spent memory = spent refl
no-other first held new counts new_counts out.ReadFault k l usage fault ended spent memory = fault
no-other first held new counts new_counts out.WriteFault k l usage fault ended spent memory = fault
no-other first held new counts new_counts out.NoMemory k l usage fault ended spent memory = memory refl

-- the turns that were paid are few
few : (first : KeyValue → Says) (held new : Held) (r : Run World) (world : World) (left : List Record) (was old kept : List (List Record)) (live now : ℕ) → EndsSo first r was held (Some new) → IsLeft r world left → now ≡ live + ran_total (records was) left → old ≡ was → AreTables (state_in new).db kept → now ≤ live + 1000000 → ran_total (records old) (table_at 0 kept) < 2 ^ 64
few first held new (Done end status rest trace) world left was old kept live now e is_left is_paid is_old kept_is ticked =
    let same : e.installed.after ≡ new = same-held new e.installed.after e.installed.told in
    let next : IsNext end e.kept new = subst (IsNext end e.kept) same e.next in
    let read : kept ≡ e.kept = kept_is.1 next.old next.kept.1.0 ∙ next.so.1 in
    let first_is : table_at 0 kept ≡ left = ap (table_at 0) read ∙ newest trace was e.kept e.pushed ∙ sym is_left.1 in
    let turns : ran_total (records old) (table_at 0 kept) ≡ ran_total (records was) left = ap (λ (o : List (List Record)). ran_total (records o) (table_at 0 kept)) is_old ∙ ap (ran_total (records was)) first_is in
    omega arith
few first held new Spent world left was old kept live now e is_left is_paid is_old kept_is ticked = absurd e

pub few-turns : (first : KeyValue → Says) (held new : Held) (old kept : List (List Record)) (launched ran live now : ℕ) → IsWell first held → Leaving first held new → Tallied first held new launched ran live now → now ≤ live + 1000000 → AreTables (state_in held).db old → AreTables (state_in new).db kept → ran_total (records old) (table_at 0 kept) < 2 ^ 64
few-turns first held new old kept launched ran live now k l t ticked old_is kept_is =
    let ends = one-kept held _ _ k l k.so in
    let tally = one-kept held _ _ k t in
    few first held new (fresh_run first plain_build (with_rows (snapshot_of held) k.rows)) tally.world tally.table k.old old kept live now ends (tally.is_left k.so) tally.paid (old_is.1 k.old k.kept.1.0) kept_is ticked

-- Edits, and the start.

pub edited-well : (first : KeyValue → Says) (made : Made) (held : Held) → IsWell first held → IsWell first (changed (edited made).edit held)
edited-well first made held k =
    let l = edits-plainly made held in
    record {
      plain = l.plain k.plain;
      rows = k.rows;
      old = k.old;
      kept = (subst (λ (o : Option Standing). AreRows (bytes_in o) k.rows) (sym (l.hidden attrs_file attrs_hidden)) k.kept.0, subst (λ (o : Option Standing). AreTables (bytes_in o) k.old) (sym (l.hidden db_file db_hidden)) k.kept.1);
      so = k.so;
    }

pub start-well : (first : KeyValue → Says) (seed : ℕ) → IsWell first (with_files (files_of seed) root_alone)
start-well first seed =
    let s = starts-plainly seed in
    record {
      plain = s.plain;
      rows = [];
      old = [];
      kept = (subst (λ (o : Option Standing). AreRows (bytes_in o) []) (sym (s.hidden attrs_file attrs_hidden)) (refl, λ other e. sym e), subst (λ (o : Option Standing). AreTables (bytes_in o) []) (sym (s.hidden db_file db_hidden)) (refl, λ other e. sym e));
      so = λ i h. absurd (omega arith);
    }

pub reaches-more : (first : KeyValue → Says) (seed n : ℕ) (before stage : Stage) → Reaches first seed n before → IsBuilt first (edited_stage (edit_after seed n) before) stage → Reaches first seed (n + 1) stage
unfolding Reaches
reaches-more first seed n before stage goes is = rw add-one (before, (goes, is))

-- Rounds.

pub changed-well : (first : KeyValue → Says) (made : Made) (edit : Edit) (held to : Held) → edit ≡ (edited made).edit → to ≡ changed edit held → IsWell first held → IsWell first to
changed-well first made edit held to is_edit is_changed k =
    subst (IsWell first) (sym (is_changed ∙ ap (λ (e : Edit). changed e held) is_edit)) (edited-well first made held k)

pub round-stage : (made : Made) (edit : Edit) (held to : Held) (sums : Sums) → edit ≡ (edited made).edit → to ≡ changed edit held → (record { held = to; sums = sums }) ≡ edited_stage (edited made).edit (record { held = held; sums = sums })
round-stage made edit held to sums is_edit is_changed = ap (λ (h : Held). record { held = h; sums = sums }) (is_changed ∙ ap (λ (e : Edit). changed e held) is_edit)

pub start-reached : (first : KeyValue → Says) (seed : ℕ) (files : List File) (held : Held) (sums : Sums) (stage : Stage) → files ≡ files_of seed → held ≡ with_files files root_alone → sums ≡ no_figures → IsBuilt first (record { held = held; sums = sums }) stage → Reaches first seed 0 stage
unfolding Reaches
start-reached first seed files held sums stage is_files is_held is_sums b =
    subst (λ (s : Sums). IsBuilt first (record { held = with_files (files_of seed) root_alone; sums = s }) stage) is_sums
    (subst (λ (h : Held). IsBuilt first (record { held = h; sums = sums }) stage) (is_held ∙ ap (λ (fs : List File). with_files fs root_alone) is_files) b)

pub started-well : (first : KeyValue → Says) (seed : ℕ) (files : List File) (held : Held) → files ≡ files_of seed → held ≡ with_files files root_alone → IsWell first held
started-well first seed files held is_files is_held = subst (IsWell first) (sym (is_held ∙ ap (λ (fs : List File). with_files fs root_alone) is_files)) (start-well first seed)

pub workload-more : (seed n : ℕ) (made now : Made) → made ≡ workload_after seed n → now ≡ (edited made).after → now ≡ workload_after seed (n + 1)
unfolding workload_after
workload-more seed n made now e is = rw add-one (is ∙ ap (λ (m : Made). (edited m).after) e)

pub workload-none : (seed : ℕ) (made : Made) → made ≡ made_of seed → made ≡ workload_after seed 0
unfolding workload_after
workload-none seed made e = e

pub round-more : (first : KeyValue → Says) (seed n : ℕ) (made : Made) (before stage : Stage) → made ≡ workload_after seed n → Reaches first seed n before → IsBuilt first (edited_stage (edited made).edit before) stage → Reaches first seed (n + 1) stage
round-more first seed n made before stage e goes b =
    reaches-more first seed n before stage goes (subst (λ (m : Made). IsBuilt first (edited_stage (edited m).edit before) stage) e b)

-- The line.

pub told-line : {E : Type 0} (first : KeyValue → Says) (seed before now : ℕ) (stage : Stage) (r : Result Text E) → IfOk r (λ line. line ≡ line_of_stage seed stage) → Reaches first seed 20 stage → before + stage.sums.turns ≤ now → IfOk r (IsLine first seed before now)
told-line first seed before now stage (Ok line) told session paid = record { stage = stage; session = session; told = told; paid = paid }
told-line first seed before now stage (Err e) told session paid = tt

-- a session names nothing, so its outcome is told as it is
unnamed-generates : (first : KeyValue → Says) (seed before now : ℕ) (old new : Option Text) (outcome : Outcome) → IsNamed outcome → Generates first seed before now old new outcome → Generates first seed before now old new out.NoMemory
unnamed-generates first seed before now old new (out.Ended status launched ran) named h = absurd named
unnamed-generates first seed before now old new out.Usage named h = absurd named
unnamed-generates first seed before now old new (out.Said status) named h = absurd named
unnamed-generates first seed before now old new (out.Special path) named h = absurd h
unnamed-generates first seed before now old new (out.Damaged f d) named h = absurd h
unnamed-generates first seed before now old new (out.Forged rec step) named h = absurd h
unnamed-generates first seed before now old new out.Spent named h = absurd named
unnamed-generates first seed before now old new out.ReadFault named h = absurd named
unnamed-generates first seed before now old new out.WriteFault named h = absurd named
unnamed-generates first seed before now old new out.NoMemory named h = absurd named

pub line-generates : (first : KeyValue → Says) (seed before now : ℕ) (old new : Option Text) (outcome said : Outcome) → IsTold outcome said → Generates first seed before now old new outcome → Generates first seed before now old new said
line-generates first seed before now old new outcome said told h = as_told (Generates first seed before now old new) outcome said told h (unnamed-generates first seed before now old new outcome)

-- Reading the tables.

-- what spells tables isn't damaged
pub undamaged : (db : Option Text) (kept : List (List Record)) (e : BuildErr) → AreTables db kept → ReadsDb db (Err e) → e ≢ stop.NoMemory → ⊥
undamaged db kept (stop.Refused (refusal.Special path)) are reads other = reads
undamaged db kept (stop.Refused (refusal.Damaged file.Attrs damage)) are reads other = reads
undamaged db kept (stop.Refused (refusal.Damaged file.Db damage)) are reads other = db-clash db kept damage are reads
undamaged db kept (stop.Refused (refusal.Damaged file.Install damage)) are reads other = reads
undamaged db kept (stop.Forged rec step) are reads other = reads
undamaged db kept stop.Spent are reads other = reads
undamaged db kept stop.ReadFault are reads other = reads
undamaged db kept stop.WriteFault are reads other = reads
undamaged db kept stop.NoMemory are reads other = other refl

-- where there is no table, none ran
pub none-ran : (old now : List (List Record)) → None ≡ slice_get now 0 → ran_total (records old) (table_at 0 now) ≡ 0
unfolding ran_total
none-ran old [] is = refl
none-ran old (table ∷ now) is = absurd cc

pub newest-paid : (old now : List (List Record)) (table : List Record) (paid : ℕ) → Some table ≡ slice_get now 0 → paid ≡ ran_total (records old) table → paid ≡ ran_total (records old) (table_at 0 now)
newest-paid old [] table paid is e = absurd cc
newest-paid old (it ∷ now) table paid is e = let same : table ≡ it = cc in e ∙ ap (ran_total (records old)) same

pub newest-few : (old now : List (List Record)) (table : List Record) → Some table ≡ slice_get now 0 → ran_total (records old) (table_at 0 now) < 2 ^ 64 → ran_total (records old) table < 2 ^ 64
newest-few old [] table is few = absurd cc
newest-few old (it ∷ now) table is few = let same : it ≡ table = cc in subst (λ (t : List Record). ran_total (records old) t < 2 ^ 64) same few
