use Rattle.rk_tree.specs.Hierarchy as hierarchy
use Rattle.rk_tree.specs.Inodes.{change, as_node}
use Rattle.rk_tree.proofs.ReplacedLemmas.{entry-tree}
use Rattle.rk_tree.proofs.TreeLemmas.{tree_inside, tree_same, shown_by, kept_by, view_by}
use Rattle.rk_tree.proofs.WholeLemmas.{alike_replaced, fit_replaced}
use Rattle.rk_tree.proofs.tree.Tree.set_bytes.Goals as goal

pub invariant_of-self-inside : goal.invariant_of-self-inside
invariant_of-self-inside c =
    let t = tree_inside c.self.inside.nodes.items c.self.inside.shown c.args.self.now c.self.invariant c.self.view_is in (
      shown_by c.replace_bytes.new.nodes.items (hierarchy.set_bytes c.args.self.now c.args.n c.args.bytes)
          (tree_same (change (as_node (hierarchy.replaced c.args.bytes)) c.self.inside.nodes.items c.args.n) c.replace_bytes.new.nodes.items (hierarchy.set_bytes c.args.self.now c.args.n c.args.bytes) c.replace_bytes.ensures
          (entry-tree c.self.inside.nodes.items c.args.self.now (hierarchy.replaced c.args.bytes) c.args.n t (alike_replaced c.args.bytes) (fit_replaced c.args.bytes))),
      tt,
    )

pub invariant_of-self : goal.invariant_of-self
invariant_of-self c =
    let t = tree_inside c.self.inside.nodes.items c.self.inside.shown c.args.self.now c.self.invariant c.self.view_is in
    kept_by c.replace_bytes.new.nodes.items (hierarchy.set_bytes c.args.self.now c.args.n c.args.bytes)
    (tree_same (change (as_node (hierarchy.replaced c.args.bytes)) c.self.inside.nodes.items c.args.n) c.replace_bytes.new.nodes.items (hierarchy.set_bytes c.args.self.now c.args.n c.args.bytes) c.replace_bytes.ensures
    (entry-tree c.self.inside.nodes.items c.args.self.now (hierarchy.replaced c.args.bytes) c.args.n t (alike_replaced c.args.bytes) (fit_replaced c.args.bytes))) c.self-1.given.0

pub returns : goal.returns
returns c =
    let t = tree_inside c.self.inside.nodes.items c.self.inside.shown c.args.self.now c.self.invariant c.self.view_is in
    view_by c.replace_bytes.new.nodes.items (hierarchy.set_bytes c.args.self.now c.args.n c.args.bytes)
    (tree_same (change (as_node (hierarchy.replaced c.args.bytes)) c.self.inside.nodes.items c.args.n) c.replace_bytes.new.nodes.items (hierarchy.set_bytes c.args.self.now c.args.n c.args.bytes) c.replace_bytes.ensures
    (entry-tree c.self.inside.nodes.items c.args.self.now (hierarchy.replaced c.args.bytes) c.args.n t (alike_replaced c.args.bytes) (fit_replaced c.args.bytes))) c.self-1.given.0
