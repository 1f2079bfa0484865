use Rattle.rk_tree.proofs.TreeLemmas.{tree_inside, tree_same, kept_by, view_by}
use Rattle.rk_tree.proofs.tree.Tree.share.Goals as goal

pub invariant_of-self : goal.invariant_of-self
invariant_of-self c =
    kept_by c.share_text.new.nodes.items c.args.self.now
    (tree_same c.self.inside.nodes.items c.share_text.new.nodes.items c.args.self.now c.share_text.ensures
    (tree_inside c.self.inside.nodes.items c.self.inside.shown c.args.self.now c.self.invariant c.self.view_is)) c.self-1.given.0

pub returns : goal.returns
returns c =
    view_by c.share_text.new.nodes.items c.args.self.now
    (tree_same c.self.inside.nodes.items c.share_text.new.nodes.items c.args.self.now c.share_text.ensures
    (tree_inside c.self.inside.nodes.items c.self.inside.shown c.args.self.now c.self.invariant c.self.view_is)) c.self-1.given.0
