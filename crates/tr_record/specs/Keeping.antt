-- Tables, as they are kept.
use Rattle.std.specs.Prelude.{List, map}
use Rattle.std.specs.List.{AllByRecursion}
use Rattle.tr_record.specs.Generations.{AreGenerations}
use Rattle.tr_record.specs.Known.{AreKnown}
use Rattle.tr_record.specs.declared.kept.Generation.{Generation}
use Rattle.tr_record.specs.declared.records.Record.{Record}

abbrev pub tables_in : List Generation → List (List Record)
tables_in = map (λ it. it.table)

-- what is known of a table's records leads to their steps
abbrev pub IsKnown : Generation → Type 0
IsKnown it = AreKnown it.known it.table

-- they may be kept, and what is known of each is so
pub record IsKept (generations : List Generation) : Type 0 where
  pub are : AreGenerations (tables_in generations)
  pub known : AllByRecursion IsKnown generations
