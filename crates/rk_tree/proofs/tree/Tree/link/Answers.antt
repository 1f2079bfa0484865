use Rattle.std.proofs.Common.{sym}
use Rattle.rk_tree.proofs.RefusalLemmas.{link-allowed}
use Rattle.rk_tree.proofs.tree.Tree.link.Goals as goal

pub links-requires-clause-there : goal.links-requires-clause-there
links-requires-clause-there c = (link-allowed c.args.self.now c.args.dir c.args.name.now c.args.node (sym c.in-None.ensures)).0

pub links-requires-clause-file : goal.links-requires-clause-file
links-requires-clause-file c = (link-allowed c.args.self.now c.args.dir c.args.name.now c.args.node (sym c.in-None.ensures)).1

pub links-requires-clause-absent : goal.links-requires-clause-absent
links-requires-clause-absent c = (link-allowed c.args.self.now c.args.dir c.args.name.now c.args.node (sym c.in-None.ensures)).2
