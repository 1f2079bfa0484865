use Rattle.std.proofs.Common.{◌<◌, List, length, sym, subst, arith}
use Rattle.std.proofs.lemmas.List.{length-map}
use Rattle.tr_record.proofs.KeepingLemmas.{known_at}
use Rattle.tr_record.specs.Generations.{table_at}
use Rattle.tr_record.specs.Keeping.{tables_in}
use Rattle.tr_record.specs.Known.{AreKnown}
use Rattle.tr_record.specs.declared.kept.Generation.{Generation}
use Rattle.tr_record.specs.declared.records.Record.{Record}
use Rattle.tr_record.proofs.kept.Kept.known.Goals as goal

pub returns : goal.returns
returns c =
    let all = c.self.inside.generations.items in
    let many = length-map all (λ (it : Generation). it.table) in
    let lt : c.args.i < length all = let r : c.args.i < length (tables_in all) = subst (λ (l : List (List Record)). c.args.i < length l) (sym c.self.view_is) c.requires in omega arith in
    subst (λ (l : List (List Record)). AreKnown c.index-generation.result.now.known (table_at c.args.i l)) c.self.view_is
    (known_at all c.args.i c.index-generation.result.now _ c.self.invariant.known lt c.index-generation.ensures)
