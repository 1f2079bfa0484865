use Rattle.sh_vars.specs.TreeRows.{row_of}
use Rattle.sh_vars.proofs.TreeLemmas.{inner_right}
use Rattle.sh_vars.proofs.turns.turn_right.Goals as goal

pub fork-requires : goal.fork-requires
fork-requires c = rw c.in_ok-middle.ensures (inner_right c.args.top.now.left (row_of c.args.top.now) c.args.top.now.right (c.args.name, c.args.variable) c.args.right c.requires)
