-- What records paid.
use Rattle.std.specs.Prelude.{ℕ, ◌+◌, List, sum_by}
use Rattle.tr_record.specs.Costs.{steps_cost}
use Rattle.tr_record.specs.declared.records.Record.{Record}

-- what a command paid
abbrev pub own : Record → ℕ
own rec = steps_cost rec.steps + rec.exit_cost

-- what all of them paid
abbrev pub total : List Record → ℕ
total table = sum_by own table
