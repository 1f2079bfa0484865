use Rattle.rk_tree.specs.Hierarchy as hierarchy
use Rattle.rk_tree.specs.Inodes.{change, as_node}
use Rattle.rk_tree.proofs.ReplacedLemmas.{entry-tree}
use Rattle.rk_tree.proofs.TreeLemmas.{tree_inside, tree_same, shown_by, kept_by, view_by, ok_view}
use Rattle.rk_tree.proofs.WholeLemmas.{alike_content, fit_content, alike_written, fit_written}
use Rattle.rk_tree.proofs.tree.Tree.write.Goals as goal

pub invariant_of-self-inside : goal.invariant_of-self-inside
invariant_of-self-inside c =
    let t = tree_inside c.self.inside.nodes.items c.self.inside.shown c.args.self.now c.self.invariant c.self.view_is in
    let w = c.write_over.ensures.any in (
      shown_by c.write_over.new.nodes.items (hierarchy.set_content c.args.self.now c.args.n w.0)
          (tree_same (change (as_node (hierarchy.with_content w.0)) c.self.inside.nodes.items c.args.n) c.write_over.new.nodes.items (hierarchy.set_content c.args.self.now c.args.n w.0) w.1
          (entry-tree c.self.inside.nodes.items c.args.self.now (hierarchy.with_content w.0) c.args.n t (alike_content w.0) (fit_content w.0))),
      tt,
    )

pub invariant_of-self : goal.invariant_of-self
invariant_of-self c =
    let t = tree_inside c.self.inside.nodes.items c.self.inside.shown c.args.self.now c.self.invariant c.self.view_is in
    let w = c.write_over.ensures.any in
    kept_by c.write_over.new.nodes.items (hierarchy.set_content c.args.self.now c.args.n w.0)
    (tree_same (change (as_node (hierarchy.with_content w.0)) c.self.inside.nodes.items c.args.n) c.write_over.new.nodes.items (hierarchy.set_content c.args.self.now c.args.n w.0) w.1
    (entry-tree c.self.inside.nodes.items c.args.self.now (hierarchy.with_content w.0) c.args.n t (alike_content w.0) (fit_content w.0))) c.self-1.given.0

pub returns : goal.returns
returns c =
    let t = tree_inside c.self.inside.nodes.items c.self.inside.shown c.args.self.now c.self.invariant c.self.view_is in
    let w = c.write_over.ensures.any in record {
      ok = ok_view c.write_over.result c.write_over.new.nodes.items (change (as_node (hierarchy.over_written c.args.at c.args.bytes.now)) c.self.inside.nodes.items c.args.n) (hierarchy.write c.args.self.now c.args.n c.args.at c.args.bytes.now) c.write_over.ensures.ok
          (entry-tree c.self.inside.nodes.items c.args.self.now (hierarchy.over_written c.args.at c.args.bytes.now) c.args.n t (alike_written c.args.at c.args.bytes.now) (fit_written c.args.at c.args.bytes.now)) c.self-1.given.0;
      any = (
        w.0,
        view_by c.write_over.new.nodes.items (hierarchy.set_content c.args.self.now c.args.n w.0)
            (tree_same (change (as_node (hierarchy.with_content w.0)) c.self.inside.nodes.items c.args.n) c.write_over.new.nodes.items (hierarchy.set_content c.args.self.now c.args.n w.0) w.1
            (entry-tree c.self.inside.nodes.items c.args.self.now (hierarchy.with_content w.0) c.args.n t (alike_content w.0) (fit_content w.0))) c.self-1.given.0,
      );
    }
