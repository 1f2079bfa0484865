use Rattle.std.proofs.Common.{◌≡◌, ◌++◌, drop}
use Rattle.tr_record.specs.Generations.{records}
use Rattle.tr_record.specs.Places.{places_from, places_of}
use Rattle.tr_matching.proofs.numbers.numbers_of.Given as goal

abbrev pub invariant-tables : goal.invariant-tables
invariant-tables l = l.numbers.items ++ places_from l.first l.key (records (drop l.k l.kept)) ≡ places_of l.key (records l.kept)
