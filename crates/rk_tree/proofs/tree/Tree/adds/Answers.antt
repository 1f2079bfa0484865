use Rattle.std.proofs.Common.{◌∙◌, ◌++◌, ◌∷◌, [], sym, ap, length}
use Rattle.rk_tree.specs.declared.inode.Inode.{Inode}
use Rattle.rk_tree.specs.Hierarchy as hierarchy
use Rattle.rk_tree.specs.Inodes.{change, lost, placed, with_name}
use Rattle.rk_tree.proofs.GrownLemmas.{added-tree, lost-tree}
use Rattle.rk_tree.proofs.TreeLemmas.{on_ok, tree_inside, tree_same, shown_either, pushed_either, kept_by, view_by, err_view}
use Rattle.rk_tree.proofs.tree.Tree.adds.Goals as goal

pub invariant_of-self-inside : goal.invariant_of-self-inside
invariant_of-self-inside c =
    let t = tree_inside c.self.inside.nodes.items c.self.inside.shown c.args.self.now c.self.invariant c.self.view_is in (
      shown_either c.add_under.result c.self.inside.nodes.items c.add_under.new.nodes.items (change (with_name c.args.name.now (length c.self.inside.nodes.items)) (c.self.inside.nodes.items ++ placed c.args.dir c.args.name.now c.args.it ∷ []) c.args.dir) c.args.self.now (hierarchy.added c.args.self.now c.args.dir c.args.name.now c.args.it)
          c.add_under.ensures.added c.add_under.ensures.err t (on_ok c.add_under.result (λ named. added-tree c.self.inside.nodes.items c.args.self.now c.args.dir c.args.name.now c.args.it t named c.requires.holds c.requires.absent c.requires.fit (sym c.has_path.ensures ∙ c.if-has_path.true)) c.add_under.ensures.name),
      tt,
    )

pub invariant_of-self-then-has_path : goal.invariant_of-self-then-has_path
invariant_of-self-then-has_path c =
    let t = tree_inside c.self.inside.nodes.items c.self.inside.shown c.args.self.now c.self.invariant c.self.view_is in
    kept_by c.add_under.new.nodes.items (hierarchy.added c.args.self.now c.args.dir c.args.name.now c.args.it)
    (tree_same (change (with_name c.args.name.now (length c.self.inside.nodes.items)) (c.self.inside.nodes.items ++ placed c.args.dir c.args.name.now c.args.it ∷ []) c.args.dir) c.add_under.new.nodes.items (hierarchy.added c.args.self.now c.args.dir c.args.name.now c.args.it) c.in_ok-n.ensures.added
    (added-tree c.self.inside.nodes.items c.args.self.now c.args.dir c.args.name.now c.args.it t c.in_ok-n.ensures.name c.requires.holds c.requires.absent c.requires.fit (sym c.has_path.ensures ∙ c.if-has_path.true))) c.self-1.given.0

pub returns-in_ok-n-clause-added : goal.returns-in_ok-n-clause-added
returns-in_ok-n-clause-added c =
    let t = tree_inside c.self.inside.nodes.items c.self.inside.shown c.args.self.now c.self.invariant c.self.view_is in
    view_by c.add_under.new.nodes.items (hierarchy.added c.args.self.now c.args.dir c.args.name.now c.args.it)
    (tree_same (change (with_name c.args.name.now (length c.self.inside.nodes.items)) (c.self.inside.nodes.items ++ placed c.args.dir c.args.name.now c.args.it ∷ []) c.args.dir) c.add_under.new.nodes.items (hierarchy.added c.args.self.now c.args.dir c.args.name.now c.args.it) c.in_ok-n.ensures.added
    (added-tree c.self.inside.nodes.items c.args.self.now c.args.dir c.args.name.now c.args.it t c.in_ok-n.ensures.name c.requires.holds c.requires.absent c.requires.fit (sym c.has_path.ensures ∙ c.if-has_path.true))) c.self-1.given.0

pub invariant_of-self : goal.invariant_of-self
invariant_of-self c =
    kept_by c.add_under.new.nodes.items c.args.self.now
    (tree_same c.self.inside.nodes.items c.add_under.new.nodes.items c.args.self.now c.in_err-n.ensures.err (tree_inside c.self.inside.nodes.items c.self.inside.shown c.args.self.now c.self.invariant c.self.view_is)) c.self-1.given.0

pub returns-in_err-n-clause-err : goal.returns-in_err-n-clause-err
returns-in_err-n-clause-err c =
    err_view c.from_residual.result c.add_under.new.nodes.items c.args.self.now
    (tree_same c.self.inside.nodes.items c.add_under.new.nodes.items c.args.self.now c.in_err-n.ensures.err (tree_inside c.self.inside.nodes.items c.self.inside.shown c.args.self.now c.self.invariant c.self.view_is)) c.self-1.given.0

pub invariant_of-self-inside-else-has_path : goal.invariant_of-self-inside-else-has_path
invariant_of-self-inside-else-has_path c =
    let t = tree_inside c.self.inside.nodes.items c.self.inside.shown c.args.self.now c.self.invariant c.self.view_is in (
      pushed_either c.push.result c.self.inside.nodes.items c.push.new.self.items c.lost.result (lost c.args.it) c.args.self.now (hierarchy.added c.args.self.now c.args.dir c.args.name.now c.args.it) c.push.ensures.items c.lost.ensures t
          (lost-tree c.self.inside.nodes.items c.args.self.now c.args.dir c.args.name.now c.args.it t c.requires.fit (sym c.has_path.ensures ∙ c.if-has_path.false)),
      tt,
    )

pub invariant_of-self-else-has_path : goal.invariant_of-self-else-has_path
invariant_of-self-else-has_path c =
    let t = tree_inside c.self.inside.nodes.items c.self.inside.shown c.args.self.now c.self.invariant c.self.view_is in
    kept_by c.push.new.self.items (hierarchy.added c.args.self.now c.args.dir c.args.name.now c.args.it)
    (tree_same (c.self.inside.nodes.items ++ lost c.args.it ∷ []) c.push.new.self.items (hierarchy.added c.args.self.now c.args.dir c.args.name.now c.args.it) (c.in_ok-push.ensures.items ∙ ap (λ (n : Inode). c.self.inside.nodes.items ++ n ∷ []) c.lost.ensures)
    (lost-tree c.self.inside.nodes.items c.args.self.now c.args.dir c.args.name.now c.args.it t c.requires.fit (sym c.has_path.ensures ∙ c.if-has_path.false))) c.self-else-has_path-1.given.0

pub returns-in_ok-push-clause-added : goal.returns-in_ok-push-clause-added
returns-in_ok-push-clause-added c =
    let t = tree_inside c.self.inside.nodes.items c.self.inside.shown c.args.self.now c.self.invariant c.self.view_is in
    view_by c.push.new.self.items (hierarchy.added c.args.self.now c.args.dir c.args.name.now c.args.it)
    (tree_same (c.self.inside.nodes.items ++ lost c.args.it ∷ []) c.push.new.self.items (hierarchy.added c.args.self.now c.args.dir c.args.name.now c.args.it) (c.in_ok-push.ensures.items ∙ ap (λ (n : Inode). c.self.inside.nodes.items ++ n ∷ []) c.lost.ensures)
    (lost-tree c.self.inside.nodes.items c.args.self.now c.args.dir c.args.name.now c.args.it t c.requires.fit (sym c.has_path.ensures ∙ c.if-has_path.false))) c.self-else-has_path-1.given.0

pub invariant_of-self-in_err-push : goal.invariant_of-self-in_err-push
invariant_of-self-in_err-push c =
    kept_by c.push.new.self.items c.args.self.now
    (tree_same c.self.inside.nodes.items c.push.new.self.items c.args.self.now c.in_err-push.ensures.items (tree_inside c.self.inside.nodes.items c.self.inside.shown c.args.self.now c.self.invariant c.self.view_is)) c.self-else-has_path-1.given.0

pub returns-in_err-push-clause-err : goal.returns-in_err-push-clause-err
returns-in_err-push-clause-err c =
    err_view c.from_residual-in_err-push.result c.push.new.self.items c.args.self.now
    (tree_same c.self.inside.nodes.items c.push.new.self.items c.args.self.now c.in_err-push.ensures.items (tree_inside c.self.inside.nodes.items c.self.inside.shown c.args.self.now c.self.invariant c.self.view_is)) c.self-else-has_path-1.given.0
