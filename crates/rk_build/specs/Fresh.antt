-- What the fresh run leaves.
use Rattle.std.specs.Prelude.{◌<◌, ◌≤◌, ◌^◌, List, [], ◌∷◌, ◌++◌, length, true, false, Option, Some, None}
use Rattle.rk_base.specs.Text.{Text}
use Rattle.tr_record.specs.Generations.{records}
use Rattle.tr_record.specs.declared.records.Record.{Record}
use Rattle.tr_attrs.specs.Attrs.{attrs_spelling}
use Rattle.tr_kept.specs.KeptSpelling.{kept_spelling}
use Rattle.rk_attrs.specs.declared.rows.AttrRow.{AttrRow}
use Rattle.rk_tree.specs.Copies.{snapshot_of as entries_of}
use Rattle.rk_kernel.specs.World.{World}
use Rattle.rk_traces.specs.Run.{Outcome, Done, Spent}
use Rattle.rk_request.specs.declared.requests.Request.{Request}
use Rattle.rk_replay.specs.Ran.{ran_of}
use Rattle.rk_build.specs.Explained.{explanation}
use Rattle.rk_changes.specs.Attributes.{attrs_of}
use Rattle.rk_folder.specs.Told.{longest_file}
use Rattle.rk_changes.specs.declared.holding.Holding.{Holding}

-- a text of a run that was asked for, over the tables that were kept
abbrev pub RunText : Type 0
RunText = Request → List (List Record) → Outcome World → Text

-- the output of a run that ended
abbrev pub output_of : RunText
output_of request old (Done world status left table) = world.out
output_of request old Spent = []

-- its error text, and where they are asked for the lines of what ran over the records that were kept, and why
abbrev pub error_text_of : RunText
error_text_of request old (Done world status left table) = world.err ++ explanation request (ran_of (records old) table) (length table)
error_text_of request old Spent = []

-- attrs as it is to stand: the spelling of rows, or nothing where there are none
abbrev pub attrs_bytes : List (Text × AttrRow) → Option Text
attrs_bytes [] = None
attrs_bytes (row ∷ rows) = Some (attrs_spelling (row ∷ rows))

-- what a folder is to hold after a run: the entries of the final tree, the rows that it doesn't keep itself, and the tables that are
-- kept from then on
abbrev pub held_after : World → List (List Record) → Holding
held_after world kept = record {
  entries = entries_of world.tree;
  rkr = true;
  state = record { db = Some (kept_spelling kept); attrs = attrs_bytes (attrs_of (entries_of world.tree)); install = None; fresh_list = false };
}

-- fewer than 2^64 bytes, as all bytes in memory are
abbrev pub IsInMemory : Option Text → Type 0
IsInMemory None = Unit {0}
IsInMemory (Some bytes) = length bytes < 2 ^ 64

-- no more bytes than a folder reads
abbrev pub IsReadable : Option Text → Type 0
IsReadable None = Unit {0}
IsReadable (Some bytes) = length bytes ≤ longest_file

-- both state files of what a run leaves
abbrev pub AreReadable : World → List (List Record) → Type 0
AreReadable world kept = IsReadable (held_after world kept).state.attrs × IsReadable (held_after world kept).state.db

abbrev pub AreInMemory : World → List (List Record) → Type 0
AreInMemory world kept = IsInMemory (held_after world kept).state.attrs × IsInMemory (held_after world kept).state.db
