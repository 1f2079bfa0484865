-- Rows of the first version that are read: each has its own steps.
use Rattle.std.specs.Prelude.{◌≡◌, ℕ, ◌≤◌, List, [], ◌∷◌, ◌++◌, Option, length, fold, IfSome}
use Rattle.rk_base.specs.Text.{Text}
use Rattle.tr_nodes.specs.Nodes.{Node}
use Rattle.tr_record.specs.Contents.{IsContent}
use Rattle.tr_record.specs.Pool.{Pool, steps_under}
use Rattle.tr_record.specs.declared.records.Record.{Record}
use Rattle.tr_record.specs.declared.steps.Step.{Step}
use Rattle.tr_codec.specs.declared.rows.HeadedRow.{HeadedRow}
use Rattle.tr_codec.specs.Reading.{Row, next_rec}
use Rattle.tr_codec.specs.Used.{row_used}

-- the step, without the number of the content that its answer is
abbrev pub step_in : Step × Option ℕ → Step
step_in it = it.0

-- the number, where there is one, is that of its answer
abbrev pub IsTold : List Text → Step × Option ℕ → Type 0
IsTold texts it = IfSome it.1 (λ n. IsContent texts n it.0.answer)

-- the numbers that there were keep their steps
pub record Keeps (old new : Pool) : Type 0 where
  pub grows : length old.nodes ≤ length new.nodes
  pub steps : (number : ℕ) → number ≤ length old.nodes → steps_under new.nodes number ≡ steps_under old.nodes number

abbrev pub IsWithin : List (Node Step) → HeadedRow → Type 0
IsWithin nodes row = row.head ≤ length nodes

-- the records, and those of rows behind them
abbrev pub records_from : List Record → List Row → List Record
records_from = fold (λ table row. table ++ next_rec table row ∷ [])

-- so many blobs are in use after rows
abbrev pub rows_used : List Text → Option ℕ → List Row → Option ℕ
rows_used blobs = fold (λ used row. row_used blobs used row.key row.steps)
