use Rattle.rk_tree.specs.Hierarchy as hierarchy
use Rattle.rk_tree.specs.Inodes.{change, as_node}
use Rattle.rk_tree.proofs.ReplacedLemmas.{entry-tree}
use Rattle.rk_tree.proofs.TreeLemmas.{tree_inside, shown_by, kept_by, ok_view, either, tree_either, kept_view}
use Rattle.rk_tree.proofs.WholeLemmas.{alike_knowing, fit_knowing}
use Rattle.rk_tree.proofs.tree.Tree.know.Goals as goal

pub invariant_of-self-inside : goal.invariant_of-self-inside
invariant_of-self-inside c =
    let t = tree_inside c.self.inside.nodes.items c.self.inside.shown c.args.self.now c.self.invariant c.self.view_is in (
      shown_by c.know_bytes.new.nodes.items (either c.know_bytes.result (hierarchy.know c.args.self.now c.args.n c.args.bytes) c.args.self.now)
          (tree_either c.know_bytes.result c.self.inside.nodes.items c.know_bytes.new.nodes.items (change (as_node (hierarchy.knowing c.args.bytes)) c.self.inside.nodes.items c.args.n) c.args.self.now (hierarchy.know c.args.self.now c.args.n c.args.bytes) c.know_bytes.ensures.ok c.know_bytes.ensures.err t
          (entry-tree c.self.inside.nodes.items c.args.self.now (hierarchy.knowing c.args.bytes) c.args.n t (alike_knowing c.args.bytes) (fit_knowing c.args.bytes))),
      tt,
    )

pub invariant_of-self : goal.invariant_of-self
invariant_of-self c =
    let t = tree_inside c.self.inside.nodes.items c.self.inside.shown c.args.self.now c.self.invariant c.self.view_is in
    kept_by c.know_bytes.new.nodes.items (either c.know_bytes.result (hierarchy.know c.args.self.now c.args.n c.args.bytes) c.args.self.now)
    (tree_either c.know_bytes.result c.self.inside.nodes.items c.know_bytes.new.nodes.items (change (as_node (hierarchy.knowing c.args.bytes)) c.self.inside.nodes.items c.args.n) c.args.self.now (hierarchy.know c.args.self.now c.args.n c.args.bytes) c.know_bytes.ensures.ok c.know_bytes.ensures.err t
    (entry-tree c.self.inside.nodes.items c.args.self.now (hierarchy.knowing c.args.bytes) c.args.n t (alike_knowing c.args.bytes) (fit_knowing c.args.bytes))) c.self-1.given.0

pub returns-clause-ok : goal.returns-clause-ok
returns-clause-ok c =
    let t = tree_inside c.self.inside.nodes.items c.self.inside.shown c.args.self.now c.self.invariant c.self.view_is in
    ok_view c.know_bytes.result c.know_bytes.new.nodes.items (change (as_node (hierarchy.knowing c.args.bytes)) c.self.inside.nodes.items c.args.n) (hierarchy.know c.args.self.now c.args.n c.args.bytes) c.know_bytes.ensures.ok
    (entry-tree c.self.inside.nodes.items c.args.self.now (hierarchy.knowing c.args.bytes) c.args.n t (alike_knowing c.args.bytes) (fit_knowing c.args.bytes)) c.self-1.given.0

pub returns-clause-err : goal.returns-clause-err
returns-clause-err c =
    kept_view c.know_bytes.result c.self.inside.nodes.items c.know_bytes.new.nodes.items c.args.self.now c.know_bytes.ensures.err
    (tree_inside c.self.inside.nodes.items c.self.inside.shown c.args.self.now c.self.invariant c.self.view_is) c.self-1.given.0
