-- Reading the tables that are kept, as functions on bytes.
use Rattle.std.specs.Prelude.{ℕ, Bool, List, Option, Some, None, not, ◌&&◌, ◌==◌, nat_le, length, take, drop, if◌then◌else◌}
use Rattle.std.specs.List.{list_any}
use Rattle.std.specs.Cmp.Lexicographic.{pointwise}
use Rattle.rk_base.specs.Text.{Text, same_text}
use Rattle.rk_calls.specs.Keys.{same_key}
use Rattle.tr_nodes.specs.Tails.{Tail}
use Rattle.tr_record.specs.Generations.{records}
use Rattle.tr_record.specs.declared.records.Record.{Record}
use Rattle.tr_record.specs.declared.steps.Step.{Step}
use Rattle.tr_kept.specs.KeptSpelling.{magic, one_of}
use Rattle.tr_codec.specs.OldReading.{either_at}
use Rattle.tr_codec.specs.Reading.{◌>>=◌, given, counted_at, fresh_at, node_at, record_at, is_whole}
use Rattle.tr_codec.specs.Same.{same_step}

-- ---- whether two tables are one

abbrev pub same_record : Record → Record → Bool
same_record a b = same_key a.key b.key && ((a.ordinal == b.ordinal) && (pointwise same_step a.steps b.steps && ((a.exit == b.exit) && (a.exit_cost == b.exit_cost))))

abbrev pub same_table : List Record → List Record → Bool
same_table = pointwise same_record

abbrev pub has_table : List (List Record) → List Record → Bool
has_table kept table = list_any (same_table table) kept

-- ---- reading

-- it has a record, and is none of those in front
abbrev pub is_generation : List (List Record) → List Record → Bool
is_generation front table = nat_le 1 (length table) && not (has_table front table)

unfoldable pub generation_at : List Text → List (Tail Step) → List (List Record) → List ℕ → Option (List Record × List ℕ)
generation_at blobs tails front bytes = do
  table ← counted_at (record_at blobs tails) bytes
  given (is_generation front table.0) table

-- at most eight, which use all nodes and all blobs in order; nothing stands behind them
abbrev pub are_whole : List Text → List (Tail Step) → List (List Record) → List ℕ → Option (List (List Record))
are_whole blobs tails kept rest = given (nat_le (length kept) 8) kept >>= λ kept. is_whole blobs tails (records kept) rest >>= λ all. Some kept

abbrev pub generations_at : List Text → List (Tail Step) → List ℕ → Option (List (List Record))
generations_at blobs tails bytes = do
  kept ← counted_at (generation_at blobs tails) bytes
  are_whole blobs tails kept.0 kept.1

-- the tables that are spelt after the magic: blobs, each once, nodes, each once, and records, table by table
unfoldable pub kept_at : List ℕ → Option (List (List Record))
kept_at bytes = do
  blobs ← counted_at fresh_at bytes
  tails ← counted_at (node_at blobs.0) blobs.1
  generations_at blobs.0 tails.0 tails.1

-- the tables that a body spells
unfoldable pub body_at : List ℕ → Option (List (List Record))
body_at bytes = if same_text (take 4 bytes) magic then kept_at (drop 4 bytes) else None

-- what is kept of a body of whichever version
abbrev pub any_at : List ℕ → Option (List (List Record))
any_at bytes = if same_text (take 4 bytes) magic then kept_at (drop 4 bytes) else (either_at bytes >>= λ table. Some (one_of table))
