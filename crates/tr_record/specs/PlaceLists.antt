-- The numbers of a key's records, as they are kept.
use Rattle.std.specs.Prelude.{ℕ, List}
use Rattle.tr_record.specs.declared.index.Numbers.{Numbers}
use Rattle.tr_record.specs.declared.index.Numbers.TheVariants as numbers

abbrev pub numbers_in : Numbers → List ℕ
numbers_in (numbers.One one) = one
numbers_in (numbers.All all) = all.items
