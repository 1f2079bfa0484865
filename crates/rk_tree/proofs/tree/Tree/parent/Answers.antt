use Rattle.std.proofs.Common.{ℕ, List, Some, ap, ◌∙◌, subst}
use Rattle.std.specs.Prelude.{slice_get}
use Rattle.rk_tree.specs.declared.inode.Inode.{Inode}
use Rattle.rk_tree.specs.Entries.{is_dir}
use Rattle.rk_tree.specs.Hierarchy.{Hierarchy, node, parent_of}
use Rattle.rk_tree.specs.Inodes.{place_in}
use Rattle.rk_tree.proofs.HierarchyLemmas.{root-yes, root-no}
use Rattle.rk_tree.proofs.UnderLemmas.{parent-root_is, parent-by}
use Rattle.rk_tree.specs.Whole.{IsWhole}
use Rattle.rk_tree.proofs.tree.Tree.parent.Goals as goal

pub returns-then-is_root : goal.returns-then-is_root
returns-then-is_root c =
    ap (λ (n : ℕ). Some n) (root-yes c.args.dir c.is_root.ensures c.if-is_root.true)
    ∙ parent-root_is c.args.self.now c.args.dir (subst IsWhole c.self.view_is c.self.invariant.0) (root-yes c.args.dir c.is_root.ensures c.if-is_root.true)

pub returns-in-None : goal.returns-in-None
returns-in-None c =
    let t = c.self.inside in
    parent-by t.shown.paths t.nodes.items c.self.invariant.0 c.self.invariant.1 c.args.dir (root-no c.args.dir c.is_root.ensures c.if-is_root.false) (ap (λ (h : Hierarchy). is_dir (node h c.args.dir)) c.self.view_is ∙ c.requires) _
    (c.in-None.ensures ∙ ap (λ (ns : List Inode). place_in (slice_get ns c.args.dir)) c.as_slice.ensures.value)
    ∙ ap (λ (h : Hierarchy). parent_of h c.args.dir) c.self.view_is

pub returns-in-Some : goal.returns-in-Some
returns-in-Some c =
    let t = c.self.inside in
    parent-by t.shown.paths t.nodes.items c.self.invariant.0 c.self.invariant.1 c.args.dir (root-no c.args.dir c.is_root.ensures c.if-is_root.false) (ap (λ (h : Hierarchy). is_dir (node h c.args.dir)) c.self.view_is ∙ c.requires) _
    (c.in-Some.ensures ∙ ap (λ (ns : List Inode). place_in (slice_get ns c.args.dir)) c.as_slice.ensures.value)
    ∙ ap (λ (h : Hierarchy). parent_of h c.args.dir) c.self.view_is
