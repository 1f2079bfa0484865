use Rattle.std.proofs.Common.{◌∙◌, sym, ap}
use Rattle.rk_tree.specs.Copies.{tree_of}
use Rattle.rk_attrs.proofs.RowLemmas.{each_row}
use Rattle.rk_folder.proofs.AttributesLemmas.{with_rows-none, with_rows-whole}
use Rattle.rk_folder.proofs.attributes.tree_of.Goals as goal

pub returns-in_err-tree-in-empty-clause-whole : goal.returns-in_err-tree-in-empty-clause-whole
returns-in_err-tree-in-empty-clause-whole c = with_rows-whole c.args.snapshot.now c.args.attrs.now c.requires (each_row c.args.attrs.now c.as_slice.ensures.rows)

pub returns-in_ok-tree-in-empty-clause-whole : goal.returns-in_ok-tree-in-empty-clause-whole
returns-in_ok-tree-in-empty-clause-whole c = with_rows-whole c.args.snapshot.now c.args.attrs.now c.requires (each_row c.args.attrs.now c.as_slice.ensures.rows)

pub returns-in_err-tree-in-len1-up-clause-whole : goal.returns-in_err-tree-in-len1-up-clause-whole
returns-in_err-tree-in-len1-up-clause-whole c = with_rows-whole c.args.snapshot.now c.args.attrs.now c.requires (each_row c.args.attrs.now c.as_slice.ensures.rows)

pub returns-in_ok-tree-in-len1-up-clause-whole : goal.returns-in_ok-tree-in-len1-up-clause-whole
returns-in_ok-tree-in-len1-up-clause-whole c = with_rows-whole c.args.snapshot.now c.args.attrs.now c.requires (each_row c.args.attrs.now c.as_slice.ensures.rows)

pub returns-in_ok-tree-in-empty-clause-tree : goal.returns-in_ok-tree-in-empty-clause-tree
returns-in_ok-tree-in-empty-clause-tree c =
    c.in_ok-tree-in-empty.ensures.tree ∙ ap tree_of (sym (with_rows-none c.args.snapshot.now c.args.attrs.now c.as_slice.result.now c.as_slice.ensures.value c.in-empty.len_below))

pub returns-in_ok-tree-in-empty-clause-again : goal.returns-in_ok-tree-in-empty-clause-again
returns-in_ok-tree-in-empty-clause-again c =
    c.in_ok-tree-in-empty.ensures.again ∙ sym (with_rows-none c.args.snapshot.now c.args.attrs.now c.as_slice.result.now c.as_slice.ensures.value c.in-empty.len_below)
