use Rattle.std.proofs.Common.{◌∙◌, sym}
use Rattle.rk_tree.specs.Hierarchy as hierarchy
use Rattle.rk_tree.specs.Inodes.{change, with_name}
use Rattle.rk_tree.proofs.GrownLemmas.{linked-tree, linked-nowhere}
use Rattle.rk_tree.proofs.TreeLemmas.{on_ok, tree_inside, tree_same, shown_either, kept_by, view_by, err_view}
use Rattle.rk_tree.proofs.tree.Tree.links.Goals as goal

pub invariant_of-self-inside : goal.invariant_of-self-inside
invariant_of-self-inside c =
    let t = tree_inside c.self.inside.nodes.items c.self.inside.shown c.args.self.now c.self.invariant c.self.view_is in (
      shown_either c.put_name.result c.self.inside.nodes.items c.put_name.new.nodes.items (change (with_name c.args.name.now c.args.n) c.self.inside.nodes.items c.args.dir) c.args.self.now (hierarchy.linked c.args.self.now c.args.dir c.args.name.now c.args.n) c.put_name.ensures.ok c.put_name.ensures.err t
          (on_ok c.put_name.result (λ named. linked-tree c.self.inside.nodes.items c.args.self.now c.args.dir c.args.n c.args.name.now t named c.requires.holds c.requires.absent c.requires.there c.requires.file (sym c.has_path.ensures ∙ c.if-has_path.true)) c.put_name.ensures.name),
      tt,
    )

pub invariant_of-self : goal.invariant_of-self
invariant_of-self c =
    let t = tree_inside c.self.inside.nodes.items c.self.inside.shown c.args.self.now c.self.invariant c.self.view_is in
    kept_by c.put_name.new.nodes.items (hierarchy.linked c.args.self.now c.args.dir c.args.name.now c.args.n)
    (tree_same (change (with_name c.args.name.now c.args.n) c.self.inside.nodes.items c.args.dir) c.put_name.new.nodes.items (hierarchy.linked c.args.self.now c.args.dir c.args.name.now c.args.n) c.in_ok-put_name.ensures.ok
    (linked-tree c.self.inside.nodes.items c.args.self.now c.args.dir c.args.n c.args.name.now t c.in_ok-put_name.ensures.name c.requires.holds c.requires.absent c.requires.there c.requires.file (sym c.has_path.ensures ∙ c.if-has_path.true))) c.self-1.given.0

pub returns-in_ok-put_name-clause-ok : goal.returns-in_ok-put_name-clause-ok
returns-in_ok-put_name-clause-ok c =
    let t = tree_inside c.self.inside.nodes.items c.self.inside.shown c.args.self.now c.self.invariant c.self.view_is in
    view_by c.put_name.new.nodes.items (hierarchy.linked c.args.self.now c.args.dir c.args.name.now c.args.n)
    (tree_same (change (with_name c.args.name.now c.args.n) c.self.inside.nodes.items c.args.dir) c.put_name.new.nodes.items (hierarchy.linked c.args.self.now c.args.dir c.args.name.now c.args.n) c.in_ok-put_name.ensures.ok
    (linked-tree c.self.inside.nodes.items c.args.self.now c.args.dir c.args.n c.args.name.now t c.in_ok-put_name.ensures.name c.requires.holds c.requires.absent c.requires.there c.requires.file (sym c.has_path.ensures ∙ c.if-has_path.true))) c.self-1.given.0

pub invariant_of-self-in_err-put_name : goal.invariant_of-self-in_err-put_name
invariant_of-self-in_err-put_name c =
    kept_by c.put_name.new.nodes.items c.args.self.now
    (tree_same c.self.inside.nodes.items c.put_name.new.nodes.items c.args.self.now c.in_err-put_name.ensures.err (tree_inside c.self.inside.nodes.items c.self.inside.shown c.args.self.now c.self.invariant c.self.view_is)) c.self-1.given.0

pub returns-in_err-put_name-clause-err : goal.returns-in_err-put_name-clause-err
returns-in_err-put_name-clause-err c =
    err_view c.from_residual.result c.put_name.new.nodes.items c.args.self.now
    (tree_same c.self.inside.nodes.items c.put_name.new.nodes.items c.args.self.now c.in_err-put_name.ensures.err (tree_inside c.self.inside.nodes.items c.self.inside.shown c.args.self.now c.self.invariant c.self.view_is)) c.self-1.given.0

pub returns-else-has_path-clause-ok : goal.returns-else-has_path-clause-ok
returns-else-has_path-clause-ok c = linked-nowhere c.args.self.now c.args.dir c.args.n c.args.name.now (sym c.has_path.ensures ∙ c.if-has_path.false)
