use Rattle.std.proofs.Common.{◌∙◌, sym, ap, subst}
use Rattle.rk_tree.specs.Entries.{Entries, IsWholeSnapshot}
use Rattle.rk_attrs.proofs.RowLemmas.{each_row}
use Rattle.rk_folder.specs.Attributes.{with_rows}
use Rattle.rk_folder.proofs.AttributesLemmas.{with_rows-whole}
use Rattle.rk_folder.proofs.attributes.tree_with.Goals as goal

pub of_snapshot-requires : goal.of_snapshot-requires
of_snapshot-requires c =
    subst IsWholeSnapshot (sym (c.in_ok-put_rows.ensures ∙ ap (λ (entries : Entries). with_rows entries c.as_slice.result.now) c.in_ok-entries.ensures ∙ ap (with_rows c.args.snapshot.now) c.as_slice.ensures.value))
    (with_rows-whole c.args.snapshot.now c.args.attrs.now c.requires (each_row c.args.attrs.now c.as_slice.ensures.rows))
