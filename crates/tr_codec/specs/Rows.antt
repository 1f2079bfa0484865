-- Rows that are read, and which nodes their numbers use.
use Rattle.std.specs.Prelude.{◌≡◌, ℕ, ◌≤◌, List, Option, Some, None, length, map, slice_get}
use Rattle.tr_nodes.specs.Nodes.{Node}
use Rattle.tr_nodes.specs.Tails.{UsesAll}
use Rattle.tr_record.specs.Pool.{steps_under}
use Rattle.tr_record.specs.declared.records.Record.{Record}
use Rattle.tr_record.specs.declared.steps.Step.{Step}
use Rattle.tr_codec.specs.declared.rows.HeadedRow.{HeadedRow}
use Rattle.tr_codec.specs.Reading.{Row}
use Rattle.tr_codec.specs.Spelling.{talks}

-- a row, with the steps of its number
abbrev pub row_under : List (Node Step) → HeadedRow → Row
row_under nodes row = record { key = row.key; steps = steps_under nodes row.head; exit = row.exit; exit_cost = row.exit_cost }

-- so many nodes are in use after these numbers, each the next one at its first use; or others were skipped
abbrev pub InUse : List (Node Step) → List ℕ → Option ℕ → Type 0
InUse nodes heads None = (now : ℕ) → UsesAll nodes 0 heads now → ⊥
InUse nodes heads (Some used) = UsesAll nodes 0 heads used × (used ≤ length nodes)

-- the records' numbers are these, each of nodes
pub record AreHeads (nodes : List (Node Step)) (heads : List ℕ) (table : List Record) : Type 0 where
  pub talks : talks table ≡ map (steps_under nodes) heads
  pub within : (i head : ℕ) → slice_get heads i ≡ Some head → head ≤ length nodes
