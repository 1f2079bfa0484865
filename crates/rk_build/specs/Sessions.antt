-- Sessions: a folder, and edits and builds of it, one after another.
use Rattle.std.specs.Prelude.{◌≡◌, List, [], ◌∷◌, true, None, false}
use Rattle.rk_base.specs.Text.{Text, is_within}
use Rattle.rk_calls.specs.Keys.{KeyValue}
use Rattle.rk_calls.specs.Talk.{Says}
use Rattle.tr_record.specs.Generations.{IsPushed, records}
use Rattle.tr_record.specs.declared.records.Record.{Record}
use Rattle.tr_kept.specs.KeptSpelling.{FitsKept}
use Rattle.rk_folder.specs.Hidden.{hidden_dir}
use Rattle.rk_folder.specs.Specials.{first_special}
use Rattle.rk_folder.specs.Told.{Held, standing}
use Rattle.rk_folder.specs.Whole.{IsWhole}
use Rattle.rk_changes.specs.Holdings.{IsAfter}
use Rattle.rk_kernel.specs.World.{World}
use Rattle.rk_traces.specs.Lasting.{AllLast}
use Rattle.rk_traces.specs.Run.{Outcome as Run, Done, Spent}
use Rattle.rk_traces.specs.Spoken.{AreSpoken}
use Rattle.rk_tree.specs.Copies.{snapshot_of as entries_of}
use Rattle.rk_tree.specs.Entries.{IsWholeSnapshot}
use Rattle.rk_request.specs.Asked.{is_fresh}
use Rattle.rk_request.specs.declared.requests.Request.{Request}
use Rattle.rk_build.specs.Fresh.{AreInMemory, held_after}
use Rattle.rk_build.specs.Kept.{Keeping}
use Rattle.rk_build.specs.Run.{fresh_run}

-- someone changes the folder, or it is built
pub data Item : Type 0 where
  Edit : (to : Held) → Item
  Build : (request : Request) → Item

-- an edit leaves `.rkr` as it was, and nothing special elsewhere
pub record Edits (held to : Held) : Type 0 where
  pub hidden : (path : Text) → is_within hidden_dir path ≡ true → standing to path ≡ standing held path
  pub plain : first_special to ≡ None

-- The folder goes to what the run leaves, its trace first among those that are kept: a whole snapshot, tables that have a spelling,
-- and state files of fewer than 2^64 bytes, as each build that ends leaves them.
pub record GoesTo (world : World) (table : List Record) (old : List (List Record)) (held to : Held) : Type 0 where
  pub kept : List (List Record)
  pub pushed : IsPushed table old kept
  pub is_after : IsAfter held to (held_after world kept)
  pub entries : IsWholeSnapshot (entries_of world.tree)
  pub fits : FitsKept kept
  pub memory : AreInMemory world kept

-- a build goes to what the fresh run leaves, and where that is spent leaves the folder as it is
abbrev pub Builds : Run World → List (List Record) → Held → Held → Type 0
Builds (Done world status left table) old held to = GoesTo world table old held to
Builds Spent old held to = to ≡ held

abbrev pub Becomes : (KeyValue → Says) → Held → Item → Held → Type 0
Becomes first held (Edit it) to = (to ≡ it) × Edits held it
Becomes first held (Build request) to = Keeping (is_fresh request) held (λ entries old. Builds (fresh_run first request entries) old held to)

-- the folder goes through these items to the last; each folder on the way is whole, as every folder is
abbrev pub Session : (KeyValue → Says) → Held → List Item → Held → Type 0
Session first held [] last = last ≡ held
Session first held (item ∷ items) last = (next : Held) × (Becomes first held item next × IsWhole next × Session first next items last)

-- nothing is special, the state files are well, and the database is absent or spoken
abbrev pub IsWell : (KeyValue → Says) → Held → Type 0
IsWell first held = Keeping false held (λ entries old. AreSpoken first (records old))

-- a session that begins so is so at every item (each front of its items is a session)
abbrev pub StaysWell : Type 0
StaysWell = (first : KeyValue → Says) (held last : Held) (items : List Item) → AllLast first → IsWhole held → IsWell first held → Session first held items last → IsWell first last
