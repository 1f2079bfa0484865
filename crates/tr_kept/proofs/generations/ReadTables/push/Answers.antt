use Rattle.std.proofs.Common.{◌∙◌, sym, ap, subst}
use Rattle.tr_record.specs.Known.{Known, AreKnown}
use Rattle.tr_kept.proofs.GenerationsReadLemmas.{generations_push}
use Rattle.tr_kept.proofs.KnownLemmas.{all_known, known_heads}
use Rattle.tr_kept.proofs.generations.ReadTables.push.Goals as goal

pub add-requires-clause-are : goal.add-requires-clause-are
add-requires-clause-are c = generations_push c.args.self.now.kept c.args.records.table c.len.ensures.are c.requires.generation c.requires.few

pub add-requires-clause-known : goal.add-requires-clause-known
add-requires-clause-known c =
    let nodes = c.args.pool.now.value.nodes in
    subst (λ (it : Known). AreKnown it c.args.records.table) (sym (c.in_ok-known.ensures ∙ ap (all_known nodes) c.as_slice.ensures.value))
    (known_heads nodes c.args.records.heads.items c.args.records.table c.requires.heads)
