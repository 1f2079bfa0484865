use Rattle.std.proofs.Common.{sym}
use Rattle.rk_tree.specs.Hierarchy as hierarchy
use Rattle.rk_tree.specs.Inodes.{change, as_node}
use Rattle.rk_tree.proofs.RefusalLemmas.{mode-allowed}
use Rattle.rk_tree.proofs.ReplacedLemmas.{entry-tree}
use Rattle.rk_tree.proofs.TreeLemmas.{tree_inside, tree_same, shown_by, kept_by, view_by}
use Rattle.rk_tree.proofs.WholeLemmas.{alike_mode, fit_mode}
use Rattle.rk_tree.proofs.tree.Tree.set_mode.Goals as goal

pub invariant_of-self-inside : goal.invariant_of-self-inside
invariant_of-self-inside c =
    let t = tree_inside c.self.inside.nodes.items c.self.inside.shown c.args.self.now c.self.invariant c.self.view_is in (
      shown_by c.replace_mode.new.nodes.items (hierarchy.set_mode c.args.self.now c.args.n c.args.mode)
          (tree_same (change (as_node (hierarchy.with_mode c.args.mode)) c.self.inside.nodes.items c.args.n) c.replace_mode.new.nodes.items (hierarchy.set_mode c.args.self.now c.args.n c.args.mode) c.replace_mode.ensures
          (entry-tree c.self.inside.nodes.items c.args.self.now (hierarchy.with_mode c.args.mode) c.args.n t (alike_mode c.args.mode) (λ it. fit_mode c.args.mode it (mode-allowed c.args.self.now c.args.n c.args.mode (sym c.in-None.ensures))))),
      tt,
    )

pub invariant_of-self : goal.invariant_of-self
invariant_of-self c =
    let t = tree_inside c.self.inside.nodes.items c.self.inside.shown c.args.self.now c.self.invariant c.self.view_is in
    kept_by c.replace_mode.new.nodes.items (hierarchy.set_mode c.args.self.now c.args.n c.args.mode)
    (tree_same (change (as_node (hierarchy.with_mode c.args.mode)) c.self.inside.nodes.items c.args.n) c.replace_mode.new.nodes.items (hierarchy.set_mode c.args.self.now c.args.n c.args.mode) c.replace_mode.ensures
    (entry-tree c.self.inside.nodes.items c.args.self.now (hierarchy.with_mode c.args.mode) c.args.n t (alike_mode c.args.mode) (λ it. fit_mode c.args.mode it (mode-allowed c.args.self.now c.args.n c.args.mode (sym c.in-None.ensures))))) c.self-1.given.0

pub returns-in-None : goal.returns-in-None
returns-in-None c =
    let t = tree_inside c.self.inside.nodes.items c.self.inside.shown c.args.self.now c.self.invariant c.self.view_is in (
      sym c.in-None.ensures,
      view_by c.replace_mode.new.nodes.items (hierarchy.set_mode c.args.self.now c.args.n c.args.mode)
          (tree_same (change (as_node (hierarchy.with_mode c.args.mode)) c.self.inside.nodes.items c.args.n) c.replace_mode.new.nodes.items (hierarchy.set_mode c.args.self.now c.args.n c.args.mode) c.replace_mode.ensures
          (entry-tree c.self.inside.nodes.items c.args.self.now (hierarchy.with_mode c.args.mode) c.args.n t (alike_mode c.args.mode) (λ it. fit_mode c.args.mode it (mode-allowed c.args.self.now c.args.n c.args.mode (sym c.in-None.ensures))))) c.self-1.given.0,
    )
