use Rattle.std.proofs.Common.{sym, subst}
use Rattle.rk_tree.specs.Entries.{node_of, IsFit}
use Rattle.rk_tree.proofs.RefusalLemmas.{add-allowed}
use Rattle.rk_tree.proofs.tree.Tree.add.Goals as goal

pub adds-requires-clause-absent : goal.adds-requires-clause-absent
adds-requires-clause-absent c = (add-allowed c.args.self.now c.args.dir c.args.name.now (node_of c.args.it) (sym c.in-None.ensures)).0

pub adds-requires-clause-fit : goal.adds-requires-clause-fit
adds-requires-clause-fit c = subst IsFit (sym c.new.ensures) (add-allowed c.args.self.now c.args.dir c.args.name.now (node_of c.args.it) (sym c.in-None.ensures)).1
