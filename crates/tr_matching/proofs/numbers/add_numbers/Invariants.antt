use Rattle.std.proofs.Common.{◌≡◌, ◌++◌, take}
use Rattle.tr_record.specs.Places.{places_from}
use Rattle.tr_matching.proofs.numbers.add_numbers.Given as goal

abbrev pub invariant-ordinals : goal.invariant-ordinals
invariant-ordinals l = l.numbers.items ≡ l.fn.numbers.items ++ take l.ordinal (places_from l.first l.key l.table)
