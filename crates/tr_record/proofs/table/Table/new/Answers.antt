use Rattle.std.proofs.Common.{List, sym, subst}
use Rattle.tr_record.specs.declared.records.Record.{Record}
use Rattle.tr_record.specs.Places.{IsIndexed}
use Rattle.tr_record.proofs.PlacesLemmas.{indexed_none}
use Rattle.tr_record.proofs.table.Table.new.Goals as goal

pub invariant_of-result : goal.invariant_of-result
invariant_of-result c = subst (λ (t : List Record). IsIndexed c.new-2.result.entries t) (sym c.new.ensures.items) (indexed_none c.new-2.result.entries c.new-2.ensures.empty)
