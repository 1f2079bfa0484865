use Rattle.std.proofs.Common.{refl}
use Rattle.rk_tree.proofs.RenamedLemmas.{rename_absent}
use Rattle.rk_tree.proofs.tree.Tree.rename.Goals as goal

pub returns-in-None : goal.returns-in-None
returns-in-None c = (rename_absent c.args.self.now c.args.dir c.args.to c.args.name.now c.args.new.now c.in-None.ensures.found, refl)
