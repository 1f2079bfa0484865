use Rattle.std.proofs.Common.{◌≡◌, ℕ, ◌<◌, get_or}
use Rattle.tr_record.specs.declared.records.Record.{Record}
use Rattle.tr_kept.specs.Generations.{ends_of}
use Rattle.tr_kept.proofs.generations.all_same_ends.Given as goal

abbrev pub invariant-records : goal.invariant-records
invariant-records l = (k : ℕ) (d : Record) → k < l.i → ends_of (get_or l.a k d) ≡ ends_of (get_or l.b k d)
