use Rattle.sh_vars.specs.TreeRows.{row_of}
use Rattle.sh_vars.proofs.TreeLemmas.{in_order_variable}
use Rattle.sh_vars.proofs.tree.Node.with_variable.Goals as goal

pub fork-requires : goal.fork-requires
fork-requires c = rw (c.in_ok-left.ensures, c.in_ok-name.ensures, c.in_ok-right.ensures) (in_order_variable c.args.self.now.left (row_of c.args.self.now) c.args.variable c.args.self.now.right c.requires)
