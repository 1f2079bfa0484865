use Rattle.std.proofs.Common.{◌≡◌, ℕ, ◌<◌, get_or}
use Rattle.tr_record.specs.declared.records.Record.{Record}
use Rattle.tr_record.proofs.same.same_records.Given as goal

abbrev pub invariant-records : goal.invariant-records
invariant-records l = (k : ℕ) (d : Record) → k < l.i → get_or l.a k d ≡ get_or l.b k d
