use Rattle.std.proofs.Common.{◌<◌, length, refl, ◌∙◌, arith, rules}
use Rattle.std.proofs.lemmas.Grind.{common_steps}
use Rattle.tr_record.proofs.GenerationLemmas.{candidate-here, candidate-later}
use Rattle.tr_record.proofs.kept.Kept.candidate.Goals as goal

pub returns-then-rest-count : goal.returns-then-rest-count
returns-then-rest-count c =
    let kept = c.args.self.now in
    let lt : c.tables.k < length kept = first_of (search rules, grind (arith, common_steps)) in
    c.find.ensures
    ∙ candidate-here c.args.key.now kept c.tables.k c.tables.rest c.table_of-table.result.now _ lt c.table_of-table.ensures c.as_slice-numbered.ensures.numbered (omega (arith, c.if-rest-count.true, c.count-count.ensures))
    ∙ c.tables.invariant

pub tables-preserved : goal.tables-preserved
tables-preserved c =
    let kept = c.args.self.now in
    let lt : c.tables.k < length kept = first_of (search rules, grind (arith, common_steps)) in
    candidate-later c.args.key.now kept c.tables.k c.tables.rest c.count-count.result _ c.table_of-table.result.now _ lt c.table_of-table.ensures c.count-count.ensures c.if-rest-count.false refl
    ∙ c.tables.invariant
