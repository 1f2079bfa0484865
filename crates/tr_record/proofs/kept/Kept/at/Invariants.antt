use Rattle.std.proofs.Common.{◌≡◌, ◌<◌, length, drop}
use Rattle.tr_record.specs.Rec.{rec_at}
use Rattle.tr_record.specs.Generations.{records}
use Rattle.tr_record.proofs.kept.Kept.at.Given as goal

-- the record stands so far on in the tables that are left
abbrev pub invariant-tables : goal.invariant-tables
invariant-tables l = record {
  within : l.rest < length (records (drop l.k l.self));
  same : rec_at l.rest (records (drop l.k l.self)) ≡ rec_at l.i (records l.self);
}
