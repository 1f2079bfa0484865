use Rattle.std.proofs.Common.{sym, subst}
use Rattle.tr_record.specs.Known.{Known, AreKnown}
use Rattle.tr_kept.proofs.KnownLemmas.{known_contents, one_contents}
use Rattle.tr_kept.proofs.kept.ReadKept.one.Goals as goal

pub kept_one-requires : goal.kept_one-requires
kept_one-requires c =
    let parts = c.into_parts-table.result in
    subst (λ (it : Known). AreKnown it parts.0) (sym c.in_ok-known.ensures) (known_contents parts.1 parts.0 c.into_parts-table.ensures.contents)

pub new-requires : goal.new-requires
new-requires c =
    let parts = c.into_parts-table.result in
    one_contents parts.1 parts.0 c.in_ok-kept.kept c.in_ok-kept.ensures c.into_parts-table.ensures.contents
