use Rattle.sh_vars.proofs.RowsLemmas.{put_is}
use Rattle.sh_vars.proofs.TreeLemmas.{replaced, put_afterwards}
use Rattle.sh_vars.proofs.rows.Rows.put.Goals as goal

pub returns-in-None-clause-ok : goal.returns-in-None-clause-ok
returns-in-None-clause-ok c = put_is c.self.inside.tree c.replace.new.self c.args.name.now c.args.variable c.args.self.now c.self.view_is (replaced c.args.name.now c.args.variable c.self.inside.tree c.replace.result c.replace.new.self c.in-None.is c.replace.ensures)

pub returns-in_ok-tree-in-Some-clause-ok : goal.returns-in_ok-tree-in-Some-clause-ok
returns-in_ok-tree-in-Some-clause-ok c = put_is c.self.inside.tree c.in_ok-tree-in-Some.tree c.args.name.now c.args.variable c.args.self.now c.self.view_is (put_afterwards c.args.name.now c.args.variable c.in-Some.variable c.self.inside.tree c.replace.result c.replace.new.self c.in_ok-tree-in-Some.tree c.in-Some.is c.replace.ensures c.in_ok-tree-in-Some.ensures)
