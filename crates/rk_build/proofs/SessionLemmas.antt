-- Sessions stay well, since each record of a fresh run is what its command says.
use Rattle.std.proofs.Common.{◌≡◌, ℕ, List, [], ◌∷◌, Bool, true, false, Option, None, refl, sym, subst, arith}
use Rattle.rk_calls.specs.Keys.{KeyValue}
use Rattle.rk_calls.specs.Talk.{Says}
use Rattle.rk_calls.specs.Refs.{top_refs}
use Rattle.tr_record.specs.Generations.{records}
use Rattle.tr_record.specs.declared.records.Record.{Record}
use Rattle.rk_folder.specs.Hidden.{attrs_file, db_file}
use Rattle.rk_folder.specs.Told.{Held, bytes_in}
use Rattle.rk_folder.specs.Whole.{IsWhole}
use Rattle.rk_folder.specs.Specials.{first_special}
use Rattle.rk_folder.specs.declared.folder.Standing.{Standing}
use Rattle.rk_changes.proofs.HiddenLemmas.{attrs_hidden, db_hidden}
use Rattle.rk_kernel.specs.World.{World, fresh_world}
use Rattle.rk_kernel.specs.Do.{answered}
use Rattle.rk_kernel.specs.Fitting.{answered-fits}
use Rattle.rk_traces.specs.Lasting.{AllLast}
use Rattle.rk_traces.specs.Run.{Outcome as Run, Done, Spent, environment}
use Rattle.rk_traces.specs.Speaking.{fresh-spoken}
use Rattle.rk_traces.specs.Spoken.{AreSpoken}
use Rattle.rk_replay.specs.Script.{script_key}
use Rattle.rk_tree.specs.Entries.{Entries}
use Rattle.rk_request.specs.Asked.{is_fresh, turns}
use Rattle.rk_request.specs.declared.requests.Request.{Request}
use Rattle.rk_build.specs.Kept.{AreRows, AreTables, decoded, state_in}
use Rattle.rk_build.specs.Run.{fresh_run}
use Rattle.rk_build.specs.Sessions.{Item, Edit, Build, Edits, Builds, Becomes, Session, IsWell}
use Rattle.rk_build.proofs.KeptLemmas.{finds-next}
use Rattle.rk_build.proofs.PushedLemmas.{pushed-spoken}

pub fresh-records : (first : KeyValue → Says) (request : Request) (entries : Entries) (world : World) (status left : ℕ) (table : List Record) → AllLast first → fresh_run first request entries ≡ Done world status left table → AreSpoken first table
unfolding fresh_run
fresh-records first request entries world status left table lasts e =
    fresh-spoken (environment first answered) lasts answered-fits (turns request) script_key top_refs (fresh_world entries) world status left table e

edited : (first : KeyValue → Says) (held to : Held) → Edits held to → IsWell first held → IsWell first to
edited first held to e k = record {
  plain = e.plain;
  rows = k.rows;
  old = k.old;
  kept = (subst (λ (o : Option Standing). AreRows (bytes_in o) k.rows) (sym (e.hidden attrs_file attrs_hidden)) k.kept.0, subst (λ (o : Option Standing). AreTables (bytes_in o) k.old) (sym (e.hidden db_file db_hidden)) k.kept.1);
  so = k.so;
}

-- what a build finds is spoken, where all that is kept is; one that begins afresh finds nothing
found-spoken : (first : KeyValue → Says) (fresh : Bool) (held : Held) (old all : List (List Record)) → AreTables (decoded fresh (state_in held)).db old → AreTables (state_in held).db all → AreSpoken first (records all) → AreSpoken first (records old)
found-spoken first true held old all it whole spoken = subst (λ (k : List (List Record)). AreSpoken first (records k)) (sym it.0) (λ i h. absurd (omega arith))
found-spoken first false held old all it whole spoken = subst (λ (k : List (List Record)). AreSpoken first (records k)) (whole.1 old it.0) spoken

built : (first : KeyValue → Says) (held to : Held) (run : Run World) (old : List (List Record)) → IsWhole held → first_special held ≡ None → IsWell first held → AreSpoken first (records old) → ((world : World) (status left : ℕ) (table : List Record) → run ≡ Done world status left table → AreSpoken first table) → Builds run old held to → IsWell first to
built first held to (Done world status left table) old whole plain well kept spoken goes =
    let n = finds-next held to world goes.kept whole plain goes.is_after goes.entries goes.fits goes.memory in
    record {
      plain = n.plain;
      rows = n.rows;
      old = n.old;
      kept = n.kept;
      so = subst (λ (k : List (List Record)). AreSpoken first (records k)) (sym n.so.1) (pushed-spoken first table old goes.kept goes.pushed (spoken world status left table refl) kept);
    }
built first held to Spent old whole plain well kept spoken goes = subst (IsWell first) (sym goes) well

becomes : (first : KeyValue → Says) (held : Held) (item : Item) (to : Held) → AllLast first → IsWhole held → IsWell first held → Becomes first held item to → IsWell first to
becomes first held (Edit it) to lasts whole well b = subst (IsWell first) (sym b.0) (edited first held it b.1 well)
becomes first held (Build request) to lasts whole well b =
    built first held to _ b.old whole b.plain well (found-spoken first (is_fresh request) held b.old well.old b.kept.1 well.kept.1 well.so) (λ world status left table e. fresh-records first request _ world status left table lasts e) b.so

pub stays-well : (first : KeyValue → Says) (held last : Held) (items : List Item) → AllLast first → IsWhole held → IsWell first held → Session first held items last → IsWell first last
stays-well first held last [] lasts whole well s = subst (IsWell first) (sym s) well
stays-well first held last (item ∷ items) lasts whole well s =
    stays-well first s.0 last items lasts s.1.1 (becomes first held item s.0 lasts whole well s.1.0) s.1.2
