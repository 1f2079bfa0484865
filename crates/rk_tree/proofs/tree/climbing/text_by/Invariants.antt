use Rattle.std.proofs.Common.{◌≡◌, length, true}
use Rattle.rk_base.specs.Canonical.{is_canonical}
use Rattle.rk_base.specs.Text.{or_root, root, stem}
use Rattle.rk_tree.specs.Names.{path_by}
use Rattle.rk_tree.proofs.tree.climbing.text_by.Given as goal

-- the text so far is that of a path, and the names that are left stand below it
abbrev pub invariant-names : goal.invariant-names
invariant-names l = record {
  names : path_by (or_root l.text.items) l.left.items ≡ path_by root l.fn.names.items;
  as_stem : stem (or_root l.text.items) ≡ l.text.items;
  canonical : is_canonical (or_root l.text.items) ≡ true;
}

abbrev pub decreases-names : goal.decreases-names
decreases-names l = length l.left.items
