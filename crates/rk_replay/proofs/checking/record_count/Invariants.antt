use Rattle.std.proofs.Common.{◌≡◌, ◌+◌, drop, length}
use Rattle.tr_record.specs.Generations.{records}
use Rattle.rk_replay.proofs.checking.record_count.Given as goal

abbrev pub invariant-tables : goal.invariant-tables
invariant-tables l = l.all + length (records (drop l.k l.kept)) ≡ length (records l.kept)
