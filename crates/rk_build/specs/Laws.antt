-- What a folder holds calls for one outcome alone, and what a run leaves is what the next one finds.
use Rattle.std.specs.Prelude.{◌≡◌, ◌⊎◌, ℕ, List, None, false}
use Rattle.rk_calls.specs.Keys.{KeyValue}
use Rattle.rk_calls.specs.Talk.{Says}
use Rattle.tr_record.specs.Generations.{records}
use Rattle.tr_record.specs.declared.records.Record.{Record}
use Rattle.tr_kept.specs.KeptSpelling.{FitsKept}
use Rattle.rk_tree.specs.Copies.{snapshot_of as entries_of}
use Rattle.rk_tree.specs.Entries.{Entries, IsWholeSnapshot}
use Rattle.rk_tree.specs.Full.{own}
use Rattle.rk_kernel.specs.World.{World}
use Rattle.rk_traces.specs.Lasting.{AllLast}
use Rattle.rk_traces.specs.Run.{Outcome as Run, Done, Spent}
use Rattle.rk_traces.specs.Spoken.{AreSpoken}
use Rattle.rk_folder.specs.Told.{Held}
use Rattle.rk_folder.specs.Whole.{IsWhole}
use Rattle.rk_folder.specs.Specials.{first_special}
use Rattle.rk_changes.specs.Holdings.{IsAfter}
use Rattle.rk_request.specs.Asked.{is_fresh}
use Rattle.rk_request.specs.declared.requests.Request.{Request}
use Rattle.rk_build.specs.Fresh.{AreInMemory, held_after}
use Rattle.rk_build.specs.Kept.{Keeping, Refuses}
use Rattle.rk_build.specs.Run.{fresh_run}
use Rattle.rk_build.specs.Outcomes.{Settles, outcome_of_refusal}
use Rattle.rk_build.specs.declared.stop.Refusal.{Refusal}
use Rattle.rk_build.specs.declared.outcome.Outcome.{Outcome}
use Rattle.rk_build.specs.declared.outcome.Outcome.TheVariants as out

-- this outcome, or want of memory
abbrev pub IsOr : Outcome → Outcome → Type 0
IsOr it outcome = (outcome ≡ it) ⊎ (outcome ≡ out.NoMemory)

-- a folder that is refused calls for that refusal
abbrev pub RefusedSettle : Type 0
RefusedSettle = (first : KeyValue → Says) (request : Request) (held : Held) (refusal : Refusal) (outcome : Outcome) → Refuses (is_fresh request) held refusal → Settles first request held outcome → IsOr (outcome_of_refusal refusal) outcome

-- the run's end, with its status, or that it is spent; or want of memory
abbrev pub Answers : Run World → Outcome → Type 0
Answers (Done world exit left table) (out.Ended status launched ran) = status ≡ exit
Answers Spent out.Spent = Unit {0}
Answers run out.NoMemory = Unit {0}
Answers run other = ⊥

-- the folder is well, has these entries with its rows, and keeps spoken records or none
abbrev pub KeepsSpoken : (KeyValue → Says) → Request → Held → Entries → Type 0
KeepsSpoken first request held it = Keeping (is_fresh request) held (λ entries old. (entries ≡ it) × AreSpoken first (records old))

-- a folder that keeps spoken records calls for what its fresh run comes to
abbrev pub SpokenSettle : Type 0
SpokenSettle = (first : KeyValue → Says) (request : Request) (held : Held) (entries : Entries) (outcome : Outcome) → KeepsSpoken first request held entries → Settles first request held outcome → Answers (fresh_run first request entries) outcome

-- a folder that holds what a run leaves has, with the rows of its attributes, the very entries that the run left, each file with
-- its bytes, and keeps these tables
abbrev pub KeepsLeft : World → List (List Record) → Held → Type 0
KeepsLeft world kept after = Keeping false after (λ entries old. (entries ≡ own (entries_of world.tree)) × (old ≡ kept))

-- (where both state files have fewer than 2^64 bytes, as all bytes in memory do)
abbrev pub FindsNext : Type 0
FindsNext = (held after : Held) (world : World) (kept : List (List Record)) → IsWhole held → first_special held ≡ None → IsAfter held after (held_after world kept)
    → IsWholeSnapshot (entries_of world.tree) → FitsKept kept → AreInMemory world kept
    → KeepsLeft world kept after

-- each record of a fresh run is what its command says, where fewer turns only cut what commands say
abbrev pub FreshSpoken : Type 0
FreshSpoken = (first : KeyValue → Says) (request : Request) (entries : Entries) (world : World) (status left : ℕ) (table : List Record) → AllLast first → fresh_run first request entries ≡ Done world status left table → AreSpoken first table
