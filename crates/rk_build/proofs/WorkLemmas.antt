-- The run of what was found, and the plan of what it left.
use Rattle.std.proofs.Common.{◌≡◌, ◌+◌, ◌++◌, ◌≤◌, ℕ, Bool, true, List, length, Option, IfSome, Err, sym, subst, ◌∙◌, arith}
use Rattle.rk_calls.specs.Keys.{KeyValue}
use Rattle.rk_calls.specs.Talk.{Says}
use Rattle.rk_tree.specs.Counts.{Rose}
use Rattle.rk_tree.specs.Entries.{Entries, IsWholeSnapshot}
use Rattle.rk_tree.specs.Fetched.{Counted, IsNoFailure}
use Rattle.rk_tree.specs.Full.{Told, AreFrom, EntriesFrom}
use Rattle.rk_tree.specs.declared.fetch.FetchErr.{FetchErr}
use Rattle.rk_tree.specs.declared.fetch.FetchErr.TheVariants.{Failed, NoMemory}
use Rattle.rk_tree.proofs.EntriesLemmas.{snapshot-from}
use Rattle.rk_kernel.specs.World.{World}
use Rattle.rk_changes.specs.Holdings.{full_holding}
use Rattle.rk_changes.specs.Planned.{IsPlan}
use Rattle.rk_changes.specs.declared.holding.Holding.{Holding}
use Rattle.rk_replay.specs.declared.build.Built.{Built}
use Rattle.rk_replay.specs.Starts.{StartsUpTo}
use Rattle.rk_traces.specs.Started.{started}
use Rattle.tr_record.specs.Generations.{IsPushed}
use Rattle.tr_record.specs.declared.records.Record.{Record}
use Rattle.rk_request.specs.Asked.{turns}
use Rattle.rk_request.specs.declared.requests.Request.{Request}
use Rattle.rk_build.specs.Explained.{explanation}
use Rattle.rk_build.specs.Fresh.{IsReadable, held_after}
use Rattle.rk_build.specs.Run.{StartsRun, StopsRun}
use Rattle.rk_build.specs.Stages.{IsPlanned, MayFit, ReadsCounted, ended_of, stop_of_fetch}
use Rattle.rk_build.specs.declared.found.Found.{Found}
use Rattle.rk_build.specs.declared.work.Prepared.{Prepared}
use Rattle.rk_build.specs.Texts.{IsNoFault}

-- where bytes are told that are told still
pub found-from : (o now : Option Told) (snapshot : Entries) → now ≡ o → EntriesFrom o snapshot → EntriesFrom now snapshot
found-from o now snapshot same all = subst (λ (o : Option Told). EntriesFrom o snapshot) (sym same) all

-- what the run left can be read
pub left-from : (o : Option Told) (left : World) (kept : List (List Record)) (after : Holding) → after ≡ held_after left kept → AreFrom o left.tree → EntriesFrom o after.entries
left-from o left kept after is all = subst (λ (h : Holding). EntriesFrom o h.entries) (sym is) (snapshot-from o left.tree all)

-- what is kept, and the plan between what was found and what is left
pub is_planned : (request : Request) (o : Option Told) (found : Found) (built : Built) (p : Prepared) (kept : List (List Record)) (after : Holding) → p.ended ≡ ended_of built → IsPushed built.table found.old kept → MayFit kept → p.error_text ≡ p.world.err ++ explanation request built.ran (length built.table)
    → after ≡ held_after p.world kept → IsWholeSnapshot after.entries → IsReadable after.state.attrs × IsReadable after.state.db → IfSome o (λ t. IsPlan (full_holding t found.holding) (full_holding t after) p.plan) → IsPlanned request o found built p
is_planned request o found built p kept after ended pushed fits text is whole readable plan = record {
  ended = ended;
  kept = kept;
  pushed = pushed;
  fits = fits;
  text = text;
  whole = subst (λ (h : Holding). IsWholeSnapshot h.entries) is whole;
  readable = subst (λ (h : Holding). IsReadable h.state.attrs × IsReadable h.state.db) is readable;
  plan = subst (λ (h : Holding). IfSome o (λ t. IsPlan (full_holding t found.holding) (full_holding t h) p.plan)) is plan;
}

-- A run that ended, and then no memory, or a read that failed.

pub ran-starts : (request : Request) (old : List Record) (before now ran : ℕ) → now ≡ started ran before → ran ≤ turns request + 1 → StartsUpTo (turns request) (length old) before now
ran-starts request old before now ran is few = record { looked = 0; within = omega arith; starts = record { ran = ran; few = few; now_is = is } }

pub fetch-stops : (first : KeyValue → Says) (request : Request) (o : Option Told) (entries : Entries) (old : List Record) (reason : FetchErr) → StopsRun first request o entries old (stop_of_fetch reason)
fetch-stops first request o entries old Failed = tt
fetch-stops first request o entries old NoMemory = tt

pub fetch-starts : {T : Type 0} (ran : T → ℕ) (request : Request) (old : List Record) (before now : ℕ) (reason : FetchErr) → StartsUpTo (turns request) (length old) before now → StartsRun ran request old before now (Err (stop_of_fetch reason))
fetch-starts ran request old before now Failed starts = starts
fetch-starts ran request old before now NoMemory starts = starts

pub fetch-reads : (T A : Type 0) (before mid now : ℕ) (reason : FetchErr) → mid ≡ before → Counted {A = A} mid now (Err reason) → ReadsCounted {T = T} before now (Err (stop_of_fetch reason))
fetch-reads T A before mid now Failed same counted = subst (λ (n : ℕ). Rose n now) same counted.1
fetch-reads T A before mid now NoMemory same counted = counted ∙ same

pub fetch-steady : (T A : Type 0) (was mid : Bool) (reason : FetchErr) → mid ≡ was → (mid ≡ true → IsNoFailure {A = A} (Err reason)) → was ≡ true → IsNoFault {T = T} (Err (stop_of_fetch reason))
fetch-steady T A was mid Failed same steady is = steady (same ∙ is)
fetch-steady T A was mid NoMemory same steady is = tt
