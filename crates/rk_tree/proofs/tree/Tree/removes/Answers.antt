use Rattle.std.proofs.Common.{◌∙◌, ap, List, None}
use Rattle.rk_tree.specs.declared.inode.Inode.{Inode}
use Rattle.rk_tree.specs.Hierarchy as hierarchy
use Rattle.rk_tree.specs.Inodes.{change, with_place, without_name}
use Rattle.rk_tree.proofs.ReplacedLemmas.{removed-tree}
use Rattle.rk_tree.proofs.TreeLemmas.{tree_inside, tree_same, shown_by, kept_by, view_by}
use Rattle.rk_tree.proofs.tree.Tree.removes.Goals as goal

pub invariant_of-self-inside : goal.invariant_of-self-inside
invariant_of-self-inside c =
    let t = tree_inside c.self.inside.nodes.items c.self.inside.shown c.args.self.now c.self.invariant c.self.view_is in (
      shown_by c.put_place.new.nodes.items (hierarchy.removed c.args.self.now c.args.dir c.args.name.now)
          (tree_same (change (with_place None) (change (without_name c.args.name.now) c.self.inside.nodes.items c.args.dir) c.args.n) c.put_place.new.nodes.items (hierarchy.removed c.args.self.now c.args.dir c.args.name.now) (c.put_place.ensures ∙ ap (λ (ns : List Inode). change (with_place None) ns c.args.n) c.take_name.ensures)
          (removed-tree c.self.inside.nodes.items c.args.self.now c.args.dir c.args.n c.args.name.now t c.requires.found c.requires.bare)),
      tt,
    )

pub invariant_of-self : goal.invariant_of-self
invariant_of-self c =
    let t = tree_inside c.self.inside.nodes.items c.self.inside.shown c.args.self.now c.self.invariant c.self.view_is in
    kept_by c.put_place.new.nodes.items (hierarchy.removed c.args.self.now c.args.dir c.args.name.now)
    (tree_same (change (with_place None) (change (without_name c.args.name.now) c.self.inside.nodes.items c.args.dir) c.args.n) c.put_place.new.nodes.items (hierarchy.removed c.args.self.now c.args.dir c.args.name.now) (c.put_place.ensures ∙ ap (λ (ns : List Inode). change (with_place None) ns c.args.n) c.take_name.ensures)
    (removed-tree c.self.inside.nodes.items c.args.self.now c.args.dir c.args.n c.args.name.now t c.requires.found c.requires.bare)) c.self-1.given.0

pub returns : goal.returns
returns c =
    let t = tree_inside c.self.inside.nodes.items c.self.inside.shown c.args.self.now c.self.invariant c.self.view_is in
    view_by c.put_place.new.nodes.items (hierarchy.removed c.args.self.now c.args.dir c.args.name.now)
    (tree_same (change (with_place None) (change (without_name c.args.name.now) c.self.inside.nodes.items c.args.dir) c.args.n) c.put_place.new.nodes.items (hierarchy.removed c.args.self.now c.args.dir c.args.name.now) (c.put_place.ensures ∙ ap (λ (ns : List Inode). change (with_place None) ns c.args.n) c.take_name.ensures)
    (removed-tree c.self.inside.nodes.items c.args.self.now c.args.dir c.args.n c.args.name.now t c.requires.found c.requires.bare)) c.self-1.given.0
