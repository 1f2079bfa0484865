use Rattle.std.proofs.Common.{List, ap, subst, ◌∙◌}
use Rattle.rk_tree.specs.declared.inode.Inode.{Inode}
use Rattle.rk_tree.specs.Entries.{is_dir}
use Rattle.rk_tree.specs.Hierarchy.{Hierarchy, node, child}
use Rattle.rk_tree.specs.Inodes.{under}
use Rattle.rk_tree.specs.Whole.{IsWhole}
use Rattle.rk_tree.proofs.BelowLemmas.{child_there}
use Rattle.rk_tree.proofs.ShownLemmas.{steps}
use Rattle.rk_tree.proofs.UnderLemmas.{child-under}
use Rattle.rk_tree.proofs.tree.Tree.child.Goals as goal

pub returns-clause-child : goal.returns-clause-child
returns-clause-child c =
    let t = c.self.inside in
    c.number_under.ensures ∙ ap (λ (ns : List Inode). under ns c.args.dir c.args.name.now) c.as_slice.ensures.value
    ∙ child-under t.shown.paths t.nodes.items c.self.invariant.0 (steps t.nodes.items t.shown.paths t.shown.leads) c.self.invariant.2 c.args.dir c.args.name.now (ap (λ (h : Hierarchy). is_dir (node h c.args.dir)) c.self.view_is ∙ c.requires)
    ∙ ap (λ (h : Hierarchy). child h c.args.dir c.args.name.now) c.self.view_is

pub returns-clause-there : goal.returns-clause-there
returns-clause-there c =
    let t = c.self.inside in
    child_there c.args.self.now c.args.dir c.args.name.now c.number_under.result (subst IsWhole c.self.view_is c.self.invariant.0)
    (c.number_under.ensures ∙ ap (λ (ns : List Inode). under ns c.args.dir c.args.name.now) c.as_slice.ensures.value
    ∙ child-under t.shown.paths t.nodes.items c.self.invariant.0 (steps t.nodes.items t.shown.paths t.shown.leads) c.self.invariant.2 c.args.dir c.args.name.now (ap (λ (h : Hierarchy). is_dir (node h c.args.dir)) c.self.view_is ∙ c.requires)
    ∙ ap (λ (h : Hierarchy). child h c.args.dir c.args.name.now) c.self.view_is)
