use Rattle.sh_vars.specs.TreeRows.{row_of}
use Rattle.sh_vars.proofs.TreeLemmas.{inner_left}
use Rattle.sh_vars.proofs.turns.turn_left.Goals as goal

pub fork-requires : goal.fork-requires
fork-requires c = rw c.in_ok-middle.ensures (inner_left c.args.left (c.args.name, c.args.variable) c.args.top.now.left (row_of c.args.top.now) c.args.top.now.right c.requires)
