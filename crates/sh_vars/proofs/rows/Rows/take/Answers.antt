use Rattle.sh_vars.proofs.RowsLemmas.{take_is}
use Rattle.sh_vars.proofs.rows.Rows.take.Goals as goal

pub returns-clause-ok : goal.returns-clause-ok
returns-clause-ok c = take_is c.self.inside.tree c.in_ok-tree.tree c.args.name.now c.args.self.now c.self.view_is c.in_ok-tree.ensures
