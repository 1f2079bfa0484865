use Rattle.tr_kept.proofs.GenerationsReadLemmas.{tables_push}
use Rattle.tr_kept.proofs.generations.ReadTables.generation_of.Goals as goal

pub returns-clause-are : goal.returns-clause-are
returns-clause-are c = λ first old.
    let records = c.in_ok-records.records in
    tables_push c.args.blobs.now c.args.pool.now.value.nodes c.args.self.now c.push.new.self first c.args.used.now c.so_many_records.new.used records.table records.heads.items old
    c.in_ok-push.ensures.kept c.in_ok-push.ensures.heads c.in_ok-records.ensures.heads c.in_ok-records.ensures.nodes c.in_ok-records.ensures.blobs
