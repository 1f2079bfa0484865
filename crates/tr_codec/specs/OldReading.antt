-- Reading a table of the first version, as functions on bytes.
use Rattle.std.specs.Prelude.{ℕ, ◌^◌, List, Option, Some, None, ◌&&◌, ◌==◌, nat_lt, length, take, drop, if◌then◌else◌}
use Rattle.std.specs.Int.{w32}
use Rattle.rk_base.specs.Text.{Text, same_text}
use Rattle.tr_record.specs.declared.steps.Step.{Step}
use Rattle.tr_record.specs.declared.records.Record.{Record}
use Rattle.tr_codec.specs.Fits.{paid}
use Rattle.tr_codec.specs.OldSpelling.{magic}
use Rattle.tr_codec.specs.Spelling as spelling
use Rattle.tr_codec.specs.Used.{table_used, all_used}
use Rattle.tr_codec.specs.Reading as reading
use Rattle.tr_codec.specs.Reading.{◌>>=◌, given, number_at, byte_at, counted_at, fresh_at, key_at, asked_at, Row, next_rec}

unfoldable pub step_at : List Text → List ℕ → Option (Step × List ℕ)
step_at blobs bytes = do
  cost ← number_at w32 bytes
  asked_at blobs cost.0 cost.1

-- a record but for its ordinal; its costs together are below 2^64
unfoldable pub row_at : List Text → List ℕ → Option (Row × List ℕ)
row_at blobs bytes = do
  key ← key_at blobs bytes
  steps ← counted_at (λ before. step_at blobs) key.1
  exit ← byte_at steps.1
  exit_cost ← number_at w32 exit.1
  given (nat_lt (paid steps.0 exit_cost.0) (2 ^ 64)) (record { key = key.0; steps = steps.0; exit = exit.0; exit_cost = exit_cost.0 }, exit_cost.1)

unfoldable pub record_at : List Text → List Record → List ℕ → Option (Record × List ℕ)
record_at blobs front bytes = do
  row ← row_at blobs bytes
  Some (next_rec front row.0, row.1)

-- so many records with these blobs, which use all of them in order; nothing stands behind them
unfoldable pub records_at : List Text → List ℕ → Option (List Record)
records_at blobs bytes = do
  table ← counted_at (record_at blobs) bytes
  given (all_used (table_used blobs (Some 0) table.0) (length blobs) && (length table.1 == 0)) table.0

-- the table that is spelt after the magic: blobs, each once, and records
unfoldable pub table_at : List ℕ → Option (List Record)
table_at bytes = do
  blobs ← counted_at fresh_at bytes
  records_at blobs.0 blobs.1

-- the table that a body spells
unfoldable pub body_at : List ℕ → Option (List Record)
body_at bytes = if same_text (take 4 bytes) magic then table_at (drop 4 bytes) else None

-- the table that a body spells, of whichever version
abbrev pub either_at : List ℕ → Option (List Record)
either_at bytes = if same_text (take 4 bytes) spelling.magic then reading.table_at (drop 4 bytes) else body_at bytes
