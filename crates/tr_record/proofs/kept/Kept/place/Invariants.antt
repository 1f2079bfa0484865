use Rattle.std.proofs.Common.{◌≢◌, ℕ, ◌<◌}
use Rattle.tr_record.specs.Generations.{table_at}
use Rattle.tr_record.proofs.kept.Kept.place.Given as goal

abbrev pub invariant-tables : goal.invariant-tables
invariant-tables l = (k : ℕ) → k < l.i → table_at k l.self ≢ l.table
