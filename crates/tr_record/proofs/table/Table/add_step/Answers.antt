use Rattle.std.proofs.Common.{arith, ◌<◌, length, List, subst, sym, refl}
use Rattle.std.proofs.lemmas.Grind.{common_steps}
use Rattle.tr_record.specs.Rec.{stepped}
use Rattle.tr_record.specs.declared.records.Record.{Record}
use Rattle.tr_record.proofs.PlacesLemmas.{indexed_at}
use Rattle.tr_record.proofs.table.Table.add_step.Goals as goal

pub returns-clause-ok : goal.returns-clause-ok
unfolding stepped
returns-clause-ok c = grind (arith, common_steps)

pub invariant_of-self : goal.invariant_of-self
invariant_of-self c =
    let lt : c.args.i < length c.self.inside.records.items = subst (λ (t : List Record). c.args.i < length t) (sym c.self.view_is) c.requires in
    indexed_at c.self.inside.index.entries c.self.inside.records.items c.args.i c.index_mut-rec.result.now _ c.self.invariant lt c.index_mut-rec.ensures.value refl refl
