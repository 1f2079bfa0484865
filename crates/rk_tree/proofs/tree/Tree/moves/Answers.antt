use Rattle.std.proofs.Common.{◌∙◌, sym, ap, List}
use Rattle.rk_tree.specs.declared.inode.Inode.{Inode}
use Rattle.rk_tree.specs.Hierarchy as hierarchy
use Rattle.rk_tree.specs.Inodes.{change, cleared, with_name, with_place, without_name}
use Rattle.rk_tree.proofs.RenamedLemmas.{renamed_nowhere}
use Rattle.rk_tree.proofs.RenamedTreeLemmas.{renamed-tree}
use Rattle.rk_tree.proofs.TreeLemmas.{tree_inside, tree_same, shown_by, kept_by, view_by, err_view}
use Rattle.rk_tree.proofs.tree.Tree.moves.Goals as goal

pub returns-then-not-has_path-clause-ok : goal.returns-then-not-has_path-clause-ok
returns-then-not-has_path-clause-ok c = renamed_nowhere c.args.self.now c.args.dir c.args.n c.args.to c.args.name.now c.args.new.now c.args.over (sym c.has_path.ensures ∙ c.if-not-has_path.true) c.requires.found c.requires.over c.requires.apart

pub invariant_of-self : goal.invariant_of-self
invariant_of-self c =
    kept_by c.move_name.new.nodes.items c.args.self.now
    (tree_same c.self.inside.nodes.items c.move_name.new.nodes.items c.args.self.now c.in_err-move_name.ensures.err (tree_inside c.self.inside.nodes.items c.self.inside.shown c.args.self.now c.self.invariant c.self.view_is)) c.in_err-move_name.self-1-own.given.0

pub returns-in_err-move_name-clause-err : goal.returns-in_err-move_name-clause-err
returns-in_err-move_name-clause-err c =
    err_view c.from_residual-in_err-move_name.result c.move_name.new.nodes.items c.args.self.now
    (tree_same c.self.inside.nodes.items c.move_name.new.nodes.items c.args.self.now c.in_err-move_name.ensures.err (tree_inside c.self.inside.nodes.items c.self.inside.shown c.args.self.now c.self.invariant c.self.view_is)) c.in_err-move_name.self-1-own.given.0

pub invariant_of-self-inside-2 : goal.invariant_of-self-inside-2
invariant_of-self-inside-2 c =
    let t = tree_inside c.self.inside.nodes.items c.self.inside.shown c.args.self.now c.self.invariant c.self.view_is in (
      shown_by c.put_places.new.nodes.items (hierarchy.renamed c.args.self.now c.args.dir c.args.name.now c.args.to c.args.new.now)
          (tree_same (change (with_place c.in_ok-place.place) (cleared (change (without_name c.args.name.now) (change (with_name c.args.new.now c.args.n) c.self.inside.nodes.items c.args.to) c.args.dir) c.args.over) c.args.n) c.put_places.new.nodes.items (hierarchy.renamed c.args.self.now c.args.dir c.args.name.now c.args.to c.args.new.now)
          (c.put_places.ensures ∙ ap (λ (ns : List Inode). change (with_place c.in_ok-place.place) (cleared ns c.args.over) c.args.n) c.in_ok-move_name.ensures.ok)
          (renamed-tree c.self.inside.nodes.items c.args.self.now c.args.dir c.args.n c.args.to c.args.name.now c.args.new.now c.args.over c.in_ok-place.place t c.in_ok-move_name.ensures.name c.requires.found c.requires.over c.requires.apart c.requires.holds c.requires.allowed (sym c.has_path.ensures ∙ c.if-not-has_path.false) c.in_ok-place.ensures)),
      tt,
    )

pub invariant_of-self-2 : goal.invariant_of-self-2
invariant_of-self-2 c =
    let t = tree_inside c.self.inside.nodes.items c.self.inside.shown c.args.self.now c.self.invariant c.self.view_is in
    kept_by c.put_places.new.nodes.items (hierarchy.renamed c.args.self.now c.args.dir c.args.name.now c.args.to c.args.new.now)
    (tree_same (change (with_place c.in_ok-place.place) (cleared (change (without_name c.args.name.now) (change (with_name c.args.new.now c.args.n) c.self.inside.nodes.items c.args.to) c.args.dir) c.args.over) c.args.n) c.put_places.new.nodes.items (hierarchy.renamed c.args.self.now c.args.dir c.args.name.now c.args.to c.args.new.now)
    (c.put_places.ensures ∙ ap (λ (ns : List Inode). change (with_place c.in_ok-place.place) (cleared ns c.args.over) c.args.n) c.in_ok-move_name.ensures.ok)
    (renamed-tree c.self.inside.nodes.items c.args.self.now c.args.dir c.args.n c.args.to c.args.name.now c.args.new.now c.args.over c.in_ok-place.place t c.in_ok-move_name.ensures.name c.requires.found c.requires.over c.requires.apart c.requires.holds c.requires.allowed (sym c.has_path.ensures ∙ c.if-not-has_path.false) c.in_ok-place.ensures)) c.self-2-1.given.0

pub returns-clause-ok : goal.returns-clause-ok
returns-clause-ok c =
    let t = tree_inside c.self.inside.nodes.items c.self.inside.shown c.args.self.now c.self.invariant c.self.view_is in
    view_by c.put_places.new.nodes.items (hierarchy.renamed c.args.self.now c.args.dir c.args.name.now c.args.to c.args.new.now)
    (tree_same (change (with_place c.in_ok-place.place) (cleared (change (without_name c.args.name.now) (change (with_name c.args.new.now c.args.n) c.self.inside.nodes.items c.args.to) c.args.dir) c.args.over) c.args.n) c.put_places.new.nodes.items (hierarchy.renamed c.args.self.now c.args.dir c.args.name.now c.args.to c.args.new.now)
    (c.put_places.ensures ∙ ap (λ (ns : List Inode). change (with_place c.in_ok-place.place) (cleared ns c.args.over) c.args.n) c.in_ok-move_name.ensures.ok)
    (renamed-tree c.self.inside.nodes.items c.args.self.now c.args.dir c.args.n c.args.to c.args.name.now c.args.new.now c.args.over c.in_ok-place.place t c.in_ok-move_name.ensures.name c.requires.found c.requires.over c.requires.apart c.requires.holds c.requires.allowed (sym c.has_path.ensures ∙ c.if-not-has_path.false) c.in_ok-place.ensures)) c.self-2-1.given.0
